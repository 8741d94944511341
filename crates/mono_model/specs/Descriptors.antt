-- The descriptors of a process, each of which names an open description, and how long a description
-- is open.
use Rattle.std.specs.Prelude.{ℕ, ◌==◌, Bool, if◌then◌else◌, map, is_some}
use Rattle.std.specs.List.{list_any}
use Rattle.std.specs.Ordering.{nat_cmp}
use Rattle.std.specs.FinMap.{FinMap, get, insert, remove, empty, entries, values}
use Rattle.std.specs.declared.option.Option.{Option}
use Rattle.std.specs.declared.option.Option.TheVariants.{None, Some}
use Rattle.guest_space.specs.First.{first_some}
use Rattle.turn_sched.specs.Lists.{contains}
use Rattle.mono_model.specs.Machine.{Mono, Process, Description, Target, Opened, Exits, Wakes, Gone, Waiter, process_at, with_process}

-- A process has the descriptors below this one at most.
abbrev pub DESCRIPTORS : ℕ
DESCRIPTORS = 32

abbrev pub descriptors_in : Option Process → FinMap nat_cmp ℕ
descriptors_in None = empty
descriptors_in (Some process) = process.descriptors

-- The descriptors of a process, and the description that one of them names.
abbrev pub descriptors_at : Mono → ℕ → FinMap nat_cmp ℕ
descriptors_at m p = descriptors_in (process_at m p)

abbrev pub named_by : Mono → ℕ → ℕ → Option ℕ
named_by m p fd = get {R = nat_cmp} (descriptors_at m p) fd

-- The process has these descriptors.
abbrev pub with_descriptors_in : Mono → ℕ → FinMap nat_cmp ℕ → Option Process → Mono
with_descriptors_in m p descriptors None = m
with_descriptors_in m p descriptors (Some process) =
    with_process m p (record process { descriptors = descriptors })

-- A descriptor names a description, or is closed.
abbrev pub with_descriptor : Mono → ℕ → ℕ → ℕ → Mono
with_descriptor m p fd id =
    with_descriptors_in m p (insert (descriptors_at m p) fd id) (process_at m p)

abbrev pub without_descriptor : Mono → ℕ → ℕ → Mono
without_descriptor m p fd =
    with_descriptors_in m p (remove (descriptors_at m p) fd) (process_at m p)

-- The least descriptor that is free, if one is.
abbrev pub if_free_descriptor : FinMap nat_cmp ℕ → ℕ → Option ℕ
if_free_descriptor descriptors fd = if is_some (get {R = nat_cmp} descriptors fd) then None else Some fd

abbrev pub least_free : FinMap nat_cmp ℕ → Option ℕ
least_free descriptors = first_some (if_free_descriptor descriptors) 0 DESCRIPTORS

-- A descriptor of some process names the description.
abbrev pub is_named : Mono → ℕ → Bool
is_named m id = list_any (λ e. contains (values e.1.descriptors) id) (entries m.processes)

-- What waits for a description that ends waits for what is gone.
abbrev pub target_without : ℕ → Target → Target
target_without id (Opened d) = if d == id then Gone else Opened d
target_without id (Exits q) = Exits q
target_without id (Wakes t) = Wakes t
target_without id Gone = Gone

abbrev pub waiter_without : ℕ → Waiter → Waiter
waiter_without id w = record w { targets = map (target_without id) w.targets }

abbrev pub without_description : Mono → ℕ → Mono
without_description m id = record m {
  descriptions = remove m.descriptions id;
  lists = record m.lists { waiting = map (waiter_without id) m.lists.waiting };
}

-- A description that no descriptor names any more ends.
abbrev pub ends_unnamed : Mono → ℕ → Mono
ends_unnamed m id = if is_named m id then m else without_description m id

abbrev pub closed_if : Mono → ℕ → ℕ → Option ℕ → Mono
closed_if m p fd None = m
closed_if m p fd (Some id) = ends_unnamed (without_descriptor m p fd) id

-- A descriptor of process p is closed, if it is open: its description ends with its last descriptor,
-- of whatever process.
abbrev pub with_closed : Mono → ℕ → ℕ → Mono
with_closed m p fd = closed_if m p fd (named_by m p fd)

abbrev pub with_position_in : Mono → ℕ → ℕ → Option Description → Mono
with_position_in m id position None = m
with_position_in m id position (Some d) = record m {
  descriptions = insert m.descriptions id (record d { position = position });
}

-- An open description is at a position.
abbrev pub with_position : Mono → ℕ → ℕ → Mono
with_position m id position =
    with_position_in m id position (get {R = nat_cmp} m.descriptions id)
