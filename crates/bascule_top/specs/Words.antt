-- What the command that was read stands for.
use Rattle.std.specs.Prelude.{◌≡◌, ℕ, true, List, String}
use Rattle.bascule_top.specs.declared.command.Command as read
use Rattle.bascule_top.specs.declared.command.Command.TheVariants as words
use Rattle.bascule_top.specs.Commands.{Launch, is_launch, Command, Start, Asm, Put, Get, words_of}

-- A program to start, as words name it.
abbrev pub launch_of : {A : Type 0} → List ℕ → List (String A) → Launch
launch_of name args = record { name = name; args = words_of args }

-- A start that was read has a name and arguments as there may be.
abbrev pub IsStartable : read.Command → Type 0
IsStartable (words.Start name args) = is_launch (launch_of name.now args.now) ≡ true
IsStartable _ = Unit {0}

abbrev pub meant : read.Command → Command
meant (words.Start name args) = Start (launch_of name.now args.now)
meant (words.Asm text file) = Asm text.now file.now
meant (words.Put file name) = Put file.now name.now
meant (words.Get name file) = Get name.now file.now
