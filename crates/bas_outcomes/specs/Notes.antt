-- What the notes of a command gain, and how a note that fails changes the outcome.
use Rattle.std.specs.Prelude.{◌≡◌, ℕ, List, ◌++◌, Option}
use Rattle.bas_edge.specs.Streams.{gained}
use Rattle.bas_outcomes.specs.declared.outcome.Outcome.{Outcome}
use Rattle.bas_outcomes.specs.declared.outcome.Outcome.TheVariants.{NotesFault, OutOfMemory}
use Rattle.bas_outcomes.specs.Texts.{line_of}

-- A first part of the text was given.
pub record GainsPart (given : Option (List ℕ)) (text : List ℕ) (given' : Option (List ℕ))
    : Type 0 where
  pub part : List ℕ
  pub rest : List ℕ
  pub whole : text ≡ part ++ rest
  pub grown : given' ≡ gained given part

-- A command ended in `outcome`, and with its note in `result`: the line was written; or the notes
-- failed, or there was no memory for the line, and they have a first part of it.
pub data IsNoted (outcome result : Outcome) (given given' : Option (List ℕ)) : Type 0 where
  Written : result ≡ outcome → given' ≡ gained given (line_of outcome)
      → IsNoted outcome result given given'
  Failed : result ≡ NotesFault → GainsPart given (line_of outcome) given'
      → IsNoted outcome result given given'
  Refused : result ≡ OutOfMemory → GainsPart given (line_of outcome) given'
      → IsNoted outcome result given given'

-- A command ended in an outcome of which this is said, and with its note in the result.
pub record NotedAs (result : Outcome) (given given' : Option (List ℕ))
    (Says : Outcome → Type 0) : Type 0 where
  pub outcome : Outcome
  pub noted : IsNoted outcome result given given'
  pub says : Says outcome
