-- Descriptors in the records: what changes where one names a description, is closed, or loses its
-- description.
use Rattle.std.specs.Prelude.{ℕ, ◌==◌, not, ◌&&◌, nat_lt, if◌then◌else◌, List, ◌∷◌, ◌++◌, map, filter}
use Rattle.std.specs.declared.option.Option.{Option}
use Rattle.std.specs.declared.option.Option.TheVariants.{None, Some}
use Rattle.mono_model.specs.Calls.{advanced}
use Rattle.libos_state.specs.declared.notes.Description.{Description}
use Rattle.libos_state.specs.declared.notes.DescriptorNote.{DescriptorNote}
use Rattle.libos_state.specs.declared.notes.ProcessNote.{ProcessNote}
use Rattle.libos_state.specs.declared.state.LibOs.{LibOs}
use Rattle.libos_state.specs.Records.{description_with, is_file}

-- Each process has other descriptors.
abbrev pub redescribed : (ProcessNote → List DescriptorNote) → ProcessNote → ProcessNote
redescribed f n = record n { descriptors = f n }

abbrev pub with_descriptors : LibOs → (ProcessNote → List DescriptorNote) → LibOs
with_descriptors os f = record os { processes = map (redescribed f) os.processes }

-- Descriptor fd of process p is closed.
abbrev pub left_by : ℕ → ℕ → ProcessNote → List DescriptorNote
left_by p fd n = filter (λ d. not (n.pid == p && d.number == fd)) n.descriptors

abbrev pub without_descriptor : LibOs → ℕ → ℕ → LibOs
without_descriptor os p fd = with_descriptors os (left_by p fd)

-- Descriptor fd of process p names a description, in the order of their numbers.
abbrev pub joined_by : ℕ → ℕ → List DescriptorNote → List DescriptorNote
joined_by fd id descriptors =
    filter (λ d. nat_lt d.number fd) descriptors
    ++ record { number = fd; description = id } ∷ filter (λ d. nat_lt fd d.number) descriptors

abbrev pub joined_in : ℕ → ℕ → ℕ → ProcessNote → List DescriptorNote
joined_in p fd id n = if n.pid == p then joined_by fd id n.descriptors else n.descriptors

abbrev pub with_descriptor : LibOs → ℕ → ℕ → ℕ → LibOs
with_descriptor os p fd id = with_descriptors os (joined_in p fd id)

-- The description of a stream goes, and with it each descriptor that names it.
abbrev pub naming_others : ℕ → ProcessNote → List DescriptorNote
naming_others id n = filter (λ d. not (d.description == id)) n.descriptors

abbrev pub without_description : LibOs → Option Description → LibOs
without_description os None = os
without_description os (Some gone) = record (with_descriptors os (naming_others gone.id)) {
  descriptions = filter (λ d. not (d.id == gone.id)) os.descriptions;
}

abbrev pub without_stream : LibOs → ℕ → LibOs
without_stream os handle = without_description os (description_with handle os.descriptions)

-- The position of an open description.
abbrev pub note_at : ℕ → ℕ → Description → Description
note_at id position d =
    record d { position = if d.id == id then position else d.position }

abbrev pub with_position : LibOs → ℕ → ℕ → LibOs
with_position os id position =
    record os { descriptions = map (note_at id position) os.descriptions }

-- What a descriptor names is at a position, where it is a file; or it moves over so many bytes.
abbrev pub positioned : LibOs → ℕ → Option Description → LibOs
positioned os position None = os
positioned os position (Some d) = if is_file d.kind then with_position os d.id position else os

abbrev pub moved_over : LibOs → ℕ → Option Description → LibOs
moved_over os count None = os
moved_over os count (Some d) = positioned os (advanced d.position count) (Some d)
