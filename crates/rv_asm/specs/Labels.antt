-- The labels that are defined.
use Rattle.std.specs.Prelude.{ℕ, if◌then◌else◌, List, Option, Some, None}
use Rattle.std.specs.Str.{bytes_eq}
use Rattle.std.specs.Ordering.{nat_cmp}
use Rattle.std.specs.Cmp.Lexicographic.{slice_cmp}
use Rattle.std.specs.BTreeMap.{get_by}
use Rattle.rv_asm.specs.declared.labels.Definition.{Definition}
use Rattle.rv_asm.specs.declared.labels.Labels.{Labels}

-- The first definition of a label.
abbrev pub defined : Labels → List ℕ → Option Definition
defined labels name = get_by (λ key. slice_cmp nat_cmp name key.now) labels.definitions

-- One, or else the other.
abbrev pub otherwise : {A : Type 0} → Option A → Option A → Option A
otherwise (Some a) other = Some a
otherwise None other = other

-- What a label is by the line of that number at that address.
abbrev pub own_definition : ℕ → ℕ → Option (List ℕ) → List ℕ → Option Definition
own_definition number at (Some label) name =
    if bytes_eq label name then Some (record { line = number; address = at }) else None
own_definition number at None name = None
