-- A world: its objects, and the contents of the outside; and what a host tells of it.
use Rattle.std.specs.Prelude.{◌≡◌, ℕ, List, [], IfSome, is_some, unwrap_or}
use Rattle.std.specs.FinMap.{empty}
use Rattle.std.specs.declared.option.Option.{Option}
use Rattle.std.specs.declared.option.Option.TheVariants.{None, Some}
use Rattle.bas_edge.specs.Files.{Files}
use Rattle.abi_calls.specs.declared.reply.Reply.{Reply}
use Rattle.abi_calls.specs.Objects.{Objects}

-- The files by name, the console input that isn't read yet, and all that was written to the
-- console.
pub record Contents : Type 0 where
  pub files : Files
  pub input : List ℕ
  pub output : List ℕ
  pub errors : List ℕ

pub record World : Type 0 where
  pub objects : Objects
  pub contents : Contents

-- The world of these objects and contents.
abbrev pub world_of : Objects → Contents → World
world_of o x = record { objects = o; contents = x }

-- A reply, and the world after it.
abbrev pub Answer : Type 0
Answer = Reply × World

abbrev pub with_objects : World → Objects → World
with_objects w o = record w { objects = o }

abbrev pub with_contents : World → Contents → World
with_contents w x = record w { contents = x }

abbrev pub with_files : Contents → Files → Contents
with_files x files = record x { files = files }

-- What a row answers on a part of the world is an answer of the world.
abbrev pub on_objects : World → Reply × Objects → Answer
on_objects w answer = (answer.0, with_objects w answer.1)

abbrev pub on_contents : World → Reply × Contents → Answer
on_contents w answer = (answer.0, with_contents w answer.1)

abbrev pub on_files : Contents → Reply × Files → Reply × Contents
on_files x answer = (answer.0, with_files x answer.1)

-- What a host tells of its contents: each part, or nothing of it.
pub record Told : Type 0 where
  pub files : Option Files
  pub input : Option (List ℕ)
  pub output : Option (List ℕ)
  pub errors : Option (List ℕ)

-- The contents are as told.
pub record Tells (told : Told) (contents : Contents) : Type 0 where
  pub files : IfSome told.files (λ files. files ≡ contents.files)
  pub input : IfSome told.input (λ input. input ≡ contents.input)
  pub output : IfSome told.output (λ output. output ≡ contents.output)
  pub errors : IfSome told.errors (λ errors. errors ≡ contents.errors)

-- What is told stays told, and nothing more is told.
pub record StaysTold (old new : Told) : Type 0 where
  pub files : is_some new.files ≡ is_some old.files
  pub input : is_some new.input ≡ is_some old.input
  pub output : is_some new.output ≡ is_some old.output
  pub errors : is_some new.errors ≡ is_some old.errors

-- Some contents that are as told.
abbrev pub some_contents : Told → Contents
some_contents told = record {
  files = unwrap_or told.files empty;
  input = unwrap_or told.input [];
  output = unwrap_or told.output [];
  errors = unwrap_or told.errors [];
}
