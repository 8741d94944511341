-- Commands, and the job of a start.
use Rattle.std.specs.Prelude.{ℕ, Bool, ◌&&◌, if◌then◌else◌, nat_le, List, [], ◌∷◌, length, map, codes, String, string_bytes}
use Rattle.std.specs.List.{list_all}
use Rattle.std.specs.Str.{bytes_eq}
use Rattle.std.specs.declared.option.Option.{Option}
use Rattle.std.specs.declared.option.Option.TheVariants.{None, Some}
use Rattle.turn_sched.specs.declared.settings.Settings.{Settings}
use Rattle.mono_model.specs.Starting.{Job}

-- How many turns a run has.
abbrev pub TURNS : ℕ
TURNS = 1000000

-- A name of 1 to 80 bytes.
abbrev pub is_name : List ℕ → Bool
is_name name = nat_le 1 (length name) && nat_le (length name) 80

-- A name of a file of the user's has a byte at least.
abbrev pub is_file_name : List ℕ → Bool
is_file_name name = nat_le 1 (length name)

-- A program to start: its name, and its arguments behind the name.
pub record Launch : Type 0 where
  pub name : List ℕ
  pub args : List (List ℕ)

-- It has up to 15 arguments of up to 80 bytes each behind its name.
abbrev pub are_args : List (List ℕ) → Bool
are_args args = nat_le (length args) 15 && list_all (λ arg. nat_le (length arg) 80) args

abbrev pub is_launch : Launch → Bool
is_launch launch = is_name launch.name && are_args launch.args

-- What can be asked for.
pub data Command : Type 0 where
  -- the program is to run
  Start : (launch : Launch) → Command
  -- the assembly text in the first file is to be assembled into the second
  Asm : (text file : List ℕ) → Command
  -- the user's file is to be copied to the host's file of the name
  Put : (file name : List ℕ) → Command
  -- the host's file of the name is to be copied to the user's file
  Get : (name file : List ℕ) → Command

-- A word, and behind it two names: two files of the user's, or one of the user's and one of the
-- host's.
abbrev pub two_names : List ℕ → List ℕ → List ℕ → Option Command
two_names word first second =
    if bytes_eq word (codes "asm") && (is_file_name first && is_file_name second)
    then Some (Asm first second)
    else (if bytes_eq word (codes "put") && (is_file_name first && is_name second)
    then Some (Put first second)
    else (if bytes_eq word (codes "get") && (is_name first && is_file_name second)
    then Some (Get first second) else None))

-- A word, a name, and what stands behind it: one name more.
abbrev pub names_behind : List ℕ → List ℕ → List (List ℕ) → Option Command
names_behind word first (second ∷ []) = two_names word first second
names_behind word first rest = None

-- The word start with a program's name and arguments, or another word with two names.
abbrev pub command_by : List ℕ → Launch → Option Command
command_by word launch =
    if bytes_eq word (codes "start")
    then (if is_launch launch then Some (Start launch) else None)
    else names_behind word launch.name launch.args

-- The command that words are: the word start, the name of a program and its further arguments, or
-- the word asm, put or get and two names of files.
abbrev pub command_of : List (List ℕ) → Option Command
command_of (word ∷ name ∷ args) = command_by word (record { name = name; args = args })
command_of (word ∷ []) = None
command_of [] = None

-- The commands that use the host, and those that use the user's files.
abbrev pub UsesHost : Option Command → Type 0
UsesHost (Some (Start launch)) = Unit {0}
UsesHost (Some (Put file name)) = Unit {0}
UsesHost (Some (Get name file)) = Unit {0}
UsesHost _ = ⊥

abbrev pub UsesShelf : Option Command → Type 0
UsesShelf (Some (Asm text file)) = Unit {0}
UsesShelf (Some (Put file name)) = Unit {0}
UsesShelf (Some (Get name file)) = Unit {0}
UsesShelf _ = ⊥

abbrev pub words_of : {A : Type 0} → List (String A) → List (List ℕ)
words_of words = map string_bytes words

-- The settings of a start.
abbrev pub start_settings : Settings
start_settings = record { start = 0; step = 1000; salt = 0; slice = 1000; picks = []; randoms = [] }

-- The job of a start: the program's first argument is its name.
abbrev pub start_job : Launch → Job
start_job launch = record { name = launch.name; args = launch.name ∷ launch.args }
