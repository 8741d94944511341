-- What a trap's descriptor in a0 names: its description, the stream that this is open on, and what the machine sees of
-- them.
use Rattle.std.specs.Prelude.{◌≡◌, ℕ, ◌==◌, true, List}
use Rattle.std.specs.Option.{option_map}
use Rattle.std.specs.declared.option.Option.{Option}
use Rattle.std.specs.declared.option.Option.TheVariants.{None, Some}
use Rattle.std.proofs.Common.{refl, sym, ap, ◌∙◌, eqb-true}
use Rattle.bas_names.specs.declared.StreamName.{StreamName}
use Rattle.bas_names.specs.declared.StreamName.TheVariants as stream
use Rattle.abi_calls.specs.declared.object.Object.TheVariants.{Stream}
use Rattle.abi_calls.specs.declared.threads.Upcall.{Upcall}
use Rattle.abi_calls.specs.Objects.{Object, object_at}
use Rattle.mono_model.specs.Machine.{Mono, register}
use Rattle.mono_model.specs.Descriptors.{named_by}
use Rattle.mono_model.specs.Calls.{Caller, description_of}
use Rattle.libos_state.specs.declared.notes.Description.{Description}
use Rattle.libos_state.specs.declared.notes.DescriptorNote.{DescriptorNote}
use Rattle.libos_state.specs.declared.notes.Kind.{Kind}
use Rattle.libos_state.specs.declared.notes.Kind.TheVariants.{ConIn, ConOut, ConErr, File}
use Rattle.libos_state.specs.declared.notes.ProcessNote.{ProcessNote}
use Rattle.libos_state.specs.declared.state.LibOs.{LibOs}
use Rattle.libos_state.specs.Records.{Visible, base, file_seen, stream_seen, described, described_in, description_named, descriptor_named, description_behind, description_seen, process_named, process_with}
use Rattle.libos_state.specs.Meaning.{caller_of}
use Rattle.libos_state.specs.Named.{Named, is_of, is_stream_of, AStreamOf}
use Rattle.libos_state.specs.Fits.{FitsRecords, FitsObjects, is_fit_access, is_fit_append}
use Rattle.libos_state.proofs.Naming.{find-passes, list_all-find, ConsoleOf, console_of, kinds-lists, Trapped, caller_of-trapped}
use Rattle.libos_state.proofs.Bases.{description_of-base}
use Rattle.libos_state.proofs.Distinct.{find-key}
use Rattle.libos_state.proofs.DescriptorBases.{named_by-found}

-- An open description has a record with an id, which a descriptor names.
pub record NamedBy (descriptions : List Description) (n : Option DescriptorNote) (d : Description) : Type 0 where
  pub id : ℕ
  pub named : description_named id descriptions ≡ Some d
  pub by : option_map (λ (k : DescriptorNote). k.description) n ≡ Some id

described_named : (descriptions : List Description) (n : Option DescriptorNote) (d : Description) → described descriptions n ≡ Some d → NamedBy descriptions n d
described_named descriptions None d is = absurd (cc)
described_named descriptions (Some n) d is = record { id = n.description; named = is; by = refl }

-- The stream of a kind, by its object.
kind_stream : (k : Kind) (name : StreamName) (x : Option Object) → is_stream_of k name ≡ true → x ≡ Some (Stream name) → stream_seen k x ≡ name
kind_stream ConIn stream.ConIn x is there = refl
kind_stream ConIn stream.ConOut x is there = absurd (cc)
kind_stream ConIn stream.ConErr x is there = absurd (cc)
kind_stream ConIn (stream.File name) x is there = absurd (cc)
kind_stream ConOut stream.ConIn x is there = absurd (cc)
kind_stream ConOut stream.ConOut x is there = refl
kind_stream ConOut stream.ConErr x is there = absurd (cc)
kind_stream ConOut (stream.File name) x is there = absurd (cc)
kind_stream ConErr stream.ConIn x is there = absurd (cc)
kind_stream ConErr stream.ConOut x is there = absurd (cc)
kind_stream ConErr stream.ConErr x is there = refl
kind_stream ConErr (stream.File name) x is there = absurd (cc)
kind_stream File stream.ConIn x is there = absurd (cc)
kind_stream File stream.ConOut x is there = absurd (cc)
kind_stream File stream.ConErr x is there = absurd (cc)
kind_stream File (stream.File name) x is there = ap (λ y. stream.File (file_seen y)) there

module _ (os : LibOs) (v : Visible) (u : Upcall) (kept : List Named) (ending : Option ℕ) (records : FitsRecords os) (objects : FitsObjects os v.objects kept ending)
    (home : Trapped os v.objects u) (d : Description) (behind : description_behind os u.process (register u.context 10) ≡ Some d) where
  abbrev fd : ℕ
  fd = register u.context 10

  abbrev m : Mono
  m = base os v

  abbrev who : Caller
  who = caller_of os u

  abbrev process : ProcessNote
  process = home.links.process

  process_behind : process_with u.process os.processes ≡ Some process
  process_behind = ap (λ h. process_with h os.processes) home.process ∙ home.links.behind

  -- what the machine sees behind the descriptor
  pub seen_there : description_of m who.process fd ≡ Some (description_seen v.objects.live d)
  seen_there = ap (λ (x : Caller). description_of m x.process fd) (caller_of-trapped os v.objects u home)
      ∙ description_of-base os v u.process fd process records process_behind
      ∙ ap (option_map (description_seen v.objects.live)) behind

  named_at : NamedBy os.descriptions (descriptor_named fd process.descriptors) d
  named_at = described_named os.descriptions (descriptor_named fd process.descriptors) d (sym (ap (described_in os fd) process_behind) ∙ behind)

  id_is : d.id ≡ named_at.id
  id_is = eqb-true d.id named_at.id (find-passes (λ (e : Description). e.id == named_at.id) os.descriptions d named_at.named)

  pub description_there : description_named d.id os.descriptions ≡ Some d
  description_there = ap (λ k. description_named k os.descriptions) id_is ∙ named_at.named

  process_there : process_named process.pid os.processes ≡ Some process
  process_there = find-key (λ (n : ProcessNote). n.pid) (λ n. n.handle == u.process) os.processes process records.pids process_behind

  pub id_there : named_by m who.process fd ≡ Some d.id
  id_there = ap (λ (x : Caller). named_by m x.process fd) (caller_of-trapped os v.objects u home)
      ∙ named_by-found os v process.pid process process_there home.links.code fd
      ∙ named_at.by ∙ ap Some (sym id_is)

  -- its stream
  stream_of_it : ConsoleOf (object_at v.objects d.handle) d.kind
  stream_of_it = console_of d.kind (object_at v.objects d.handle)
      (list_all-find (λ (e : Description). is_of (AStreamOf e.kind) (object_at v.objects e.handle)) (λ e. e.id == d.id) os.descriptions d
      (kinds-lists os v.objects kept ending records objects).descriptions description_there)

  pub stream_there : object_at v.objects d.handle ≡ Some (Stream (description_seen v.objects.live d).stream)
  stream_there = stream_of_it.is
      ∙ ap (λ name. Some (Stream name)) (sym (kind_stream d.kind stream_of_it.name (object_at v.objects d.handle) stream_of_it.console stream_of_it.is))

  pub access_there : is_fit_access d.kind d.access ≡ true
  access_there = list_all-find (λ (e : Description). is_fit_access e.kind e.access) (λ e. e.id == d.id) os.descriptions d records.access description_there

  pub append_there : is_fit_append d.kind d.append ≡ true
  append_there = list_all-find (λ (e : Description). is_fit_append e.kind e.append) (λ e. e.id == d.id) os.descriptions d records.append description_there
