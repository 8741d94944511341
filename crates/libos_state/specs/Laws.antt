-- The laws of the library OS over every view: a reply keeps what it stands for, and a trap makes
-- it stand for the machine's next turn.
use Rattle.std.specs.Prelude.{◌≡◌, ◌⊎◌, ℕ, List, ◌++◌}
use Rattle.std.specs.declared.option.Option.TheVariants.{Some}
use Rattle.abi_calls.specs.declared.call.Call.{Call}
use Rattle.abi_calls.specs.declared.reply.Reply.{Reply}
use Rattle.abi_calls.specs.declared.threads.Turned.TheVariants.{Exception}
use Rattle.abi_calls.specs.declared.threads.Upcall.{Upcall}
use Rattle.abi_calls.specs.Objects.{Objects}
use Rattle.bas_edge.specs.Files.{Files}
use Rattle.abi_calls.specs.Rules.{Face, AnswersThrough}
use Rattle.abi_calls.specs.Sound.{IsSound}
use Rattle.abi_calls.specs.Turn.{world_turn}
use Rattle.mono_model.specs.Written.{Written, and_then}
use Rattle.mono_model.specs.Starting.{Started, Runs}
use Rattle.mono_model.specs.Turns.{turn_of}
use Rattle.libos_state.specs.declared.state.LibOs.{LibOs}
use Rattle.libos_state.specs.Records.{View, Visible, visible, with_visible, base}
use Rattle.libos_state.specs.Pending.{pending}
use Rattle.libos_state.specs.Meaning.{Meaning, meaning, leads_to}
use Rattle.libos_state.specs.declared.state.Boot.TheVariants.{Going, Up}
use Rattle.libos_state.specs.Fits.{Fits, FitsUp}

-- The files that something leads to; without a machine they are as they were.
abbrev pub files_in : Started → Files → Files
files_in (Runs m) files = m.files
files_in _ files = files

-- A text is what is left of another, some first bytes of which were taken.
pub record IsRest (rest whole : List ℕ) : Type 0 where
  pub taken : List ℕ
  pub is : whole ≡ taken ++ rest

-- What was stood for in one view is stood for in a later one, behind what was written between the
-- two; the files are those before or those that it leads to.
pub record Keeps (w : View) (old : Meaning) (w' : View) (new : Meaning) : Type 0 where
  pub written : Written
  pub output : w'.contents.output ≡ w.contents.output ++ written.output
  pub errors : w'.contents.errors ≡ w.contents.errors ++ written.errors
  pub input : IsRest w'.contents.input w.contents.input
  pub files : (w'.contents.files ≡ w.contents.files)
      ⊎ (w'.contents.files ≡ files_in old.0 w.contents.files)
  pub same : old ≡ (new.0, and_then written new.1)

-- A reply leads from one library OS over a view to another over the next view: it fits there, the
-- two stand for the same, a start changes no contents, and a run that has begun goes on.
pub record GoesOn (old : LibOs) (w : View) (new : LibOs) (w' : View) : Type 0 where
  pub fits : Fits new w'.objects
  pub keeps : Keeps w (meaning old (visible w)) w' (meaning new (visible w'))
  pub quiet : old.boot ≡ Going → w'.contents ≡ w.contents
  pub up : old.boot ≡ Up → new.boot ≡ Up

-- The lists of rules and the objects of a view, which are always told.
abbrev pub face_of : View → Face
face_of w = record { rules = w.rules; objects = w.objects }

-- So it does over every view with sound objects that the library OS fits, whatever the host answers
-- below the lists of rules, and whatever these lists are.
pub record KeepsMeaning (old : LibOs) (reply : Reply) (new : LibOs) : Type 0 where
  pub kept : (w w' : View) (call : Call) → pending old ≡ Some call
      → Fits old w.objects → IsSound w.objects
      → AnswersThrough (face_of w) w.contents call reply (face_of w') w'.contents
      → GoesOn old w new w'

-- In every sound world that the library OS fits with nothing in progress, a turn that ends with
-- this trap makes the new library OS fit and stand for the machine's next turn.
pub record EntersTurn (old : LibOs) (upcall : Upcall) (new : LibOs) : Type 0 where
  pub enters : (v : Visible) (o : Objects) → old.boot ≡ Up → FitsUp old v.objects
      → IsSound v.objects → world_turn v.objects ≡ (Exception upcall, o)
      → Fits new o × (meaning new (with_visible v o) ≡ leads_to (turn_of (base old v)))
