-- The stage at which the length of a file comes: lseek seeks a position from the file's end, fstat stores its status.
use Rattle.std.specs.Prelude.{◌≡◌, ℕ, ◌==◌, ◌≤◌, Bool, true, false, cond, ◌&&◌, ◌||◌, nat_lt, List, [], length, is_some}
use Rattle.std.specs.declared.option.Option.{Option}
use Rattle.std.specs.declared.option.Option.TheVariants.{None, Some}
use Rattle.std.proofs.Common.{refl, sym, ap, subst, ◌∙◌, arith, eqb-true}
use Rattle.std.proofs.lemmas.Bool.{and_parts, and_from, or_right}
use Rattle.bas_edge.specs.Files.{file_bytes}
use Rattle.bas_names.specs.declared.StreamName.TheVariants as stream
use Rattle.abi_calls.specs.declared.object.Object.TheVariants.{Stream}
use Rattle.abi_calls.specs.declared.reply.Reply.{Reply}
use Rattle.abi_calls.specs.declared.reply.Reply.TheVariants.{Length}
use Rattle.abi_calls.specs.declared.threads.Upcall.{Upcall}
use Rattle.abi_calls.specs.Objects.{object_at}
use Rattle.abi_calls.specs.Streams.{stream_length_row}
use Rattle.abi_calls.specs.Sound.{IsSound}
use Rattle.mono_model.specs.Machine as mono
use Rattle.mono_model.specs.Machine.{Mono, register}
use Rattle.mono_model.specs.Calls.{Caller, EINVAL, error, silently, finished, is_exit, moved, bytes_of}
use Rattle.mono_model.specs.FileCalls as machine
use Rattle.mono_model.specs.FileCalls.{LSEEK, FSTAT, sought, status, seek_from}
use Rattle.libos_state.specs.declared.cont.Cont.{Cont}
use Rattle.libos_state.specs.declared.cont.Stage.TheVariants.{SetContext, StoreBytes, FileLength}
use Rattle.libos_state.specs.declared.notes.Description.{Description}
use Rattle.libos_state.specs.declared.state.LibOs.{LibOs}
use Rattle.libos_state.specs.declared.step.Change.TheVariants.{Same}
use Rattle.libos_state.specs.Records.{View, Visible, visible, base, is_file, file_seen, stream_seen, description_behind, description_seen}
use Rattle.libos_state.specs.Descriptors.{with_position}
use Rattle.libos_state.specs.Pending.{asked, upcall_in, argument, handle_of}
use Rattle.libos_state.specs.Answered.{goes_on, answered_at, with_change, seek_change, seek_result, service_storing, service_with_result, is_lseek}
use Rattle.libos_state.specs.Meaning.{caller_in, trap_in, leads_to, meant_at}
use Rattle.libos_state.specs.Fits.{FitsObjects, FitsStage, FitsTrap, FitsEvent, is_call, is_recorded, is_open_file, measures, reads, stores, returns}
use Rattle.libos_state.proofs.Holds.{Holds}
use Rattle.libos_state.proofs.Rows.{Stands, by_row}
use Rattle.libos_state.proofs.Naming.{Trapped, trapped}
use Rattle.libos_state.proofs.Serving as serving
use Rattle.libos_state.proofs.Serving.{returns-call, trap_of, on_trap, named_as-no_kinds, FitsTrap-with_service, result_fits}
use Rattle.libos_state.proofs.OpenStreams.{seen_there, stream_there}
use Rattle.libos_state.proofs.Placing.{base-placed, placed-file}
use Rattle.libos_state.proofs.Positions.{FitsRecords-with_position, FitsObjects-with_position}
use Rattle.libos_state.proofs.FileCalls.{FileOf, file_of, served_seek, served_status}
use Rattle.libos_state.proofs.FileEntering.{length-status}
use Rattle.libos_state.proofs.Views.{world, on_world, AnswersAs, answer, with_objects}

-- A call that asks for a file's length is lseek from its end, or fstat.
pub data Measures (u : Upcall) : Type 0 where
  seeks : (register u.context 17 == LSEEK) ≡ true → (register u.context 12 == 2) ≡ true → Measures u
  tells : (register u.context 17 == FSTAT) ≡ true → Measures u

measures_of : (u : Upcall) (stat seek : Bool) → is_call u FSTAT ≡ stat → (is_call u LSEEK && register u.context 12 == 2) ≡ seek → (stat || seek) ≡ true → Measures u
measures_of u true seek stat is some = tells (and_parts (u.cause == 8) (register u.context 17 == FSTAT) stat).1
measures_of u false true stat is some =
    let parts = and_parts (is_call u LSEEK) (register u.context 12 == 2) is in
    seeks (and_parts (u.cause == 8) (register u.context 17 == LSEEK) parts.0).1 parts.1
measures_of u false false stat is some = absurd (cc)

is_measured : (u : Upcall) → (is_call u FSTAT || (is_call u LSEEK && register u.context 12 == 2)) ≡ true → (u.cause == 8) ≡ true
is_measured u some = elim (is_call u FSTAT) as (λ b. is_call u FSTAT ≡ b → (b || (is_call u LSEEK && register u.context 12 == 2)) ≡ true → (u.cause == 8) ≡ true) [
  | true ↦ λ is _. (and_parts (u.cause == 8) (register u.context 17 == FSTAT) is).0
  | false ↦ λ _ seek. (and_parts (u.cause == 8) (register u.context 17 == LSEEK) (and_parts (is_call u LSEEK) (register u.context 12 == 2) seek).0).0
] refl some

module _ (os : LibOs) (c : Cont) (w : View) (fits : FitsStage os w.objects c FileLength) where
  abbrev u : Upcall
  u = upcall_in c.event

  abbrev v : Visible
  v = visible w

  abbrev m : Mono
  m = base os v

  abbrev who : Caller
  who = caller_in os c

  named_none : FitsObjects os w.objects [] None
  named_none = subst (λ kept. FitsObjects os w.objects kept None) (named_as-no_kinds c.handles) fits.objects

  trap : FitsTrap os w.objects u FileLength
  trap = trap_of os w.objects c.event FileLength refl fits.event

  abbrev behind : Option Description
  behind = description_behind os u.process (register u.context 10)

  parts : (measures os u ≡ true) × (is_recorded os u ≡ true)
  parts = and_parts (measures os u) (is_recorded os u) trap.comes

  measured : ((is_call u FSTAT || (is_call u LSEEK && register u.context 12 == 2)) ≡ true) × (is_open_file behind ≡ true)
  measured = and_parts (is_call u FSTAT || (is_call u LSEEK && register u.context 12 == 2)) (is_open_file behind) parts.0

  call : (u.cause == 8) ≡ true
  call = is_measured u measured.0

  asks : Measures u
  asks = measures_of u (is_call u FSTAT) (is_call u LSEEK && register u.context 12 == 2) refl refl measured.0

  file : FileOf behind
  file = file_of behind measured.1

  abbrev d : Description
  d = file.description

  abbrev seen : mono.Description
  seen = description_seen v.objects.live d

  home : Trapped os w.objects u
  home = trapped os w.objects u [] None fits.records named_none trap.home parts.1

  there : machine.described m who ≡ Some seen
  there = seen_there os v u [] None fits.records named_none home d file.is

  abbrev name : List ℕ
  name = file_seen (object_at w.objects d.handle)

  abbrev size : ℕ
  size = length (file_bytes w.contents.files name)

  stream_is : seen.stream ≡ stream.File name
  stream_is = ap (λ k. stream_seen k (object_at w.objects d.handle)) file.file

  row : (r : Reply) → answer w (asked os c FileLength) r ≡ (Length size, with_objects w w.objects)
  row r = ap (λ x. on_world w (stream_length_row (world w) x))
      (ap (λ x. object_at w.objects (handle_of x)) file.is ∙ stream_there os v u [] None fits.records named_none home d file.is ∙ ap (λ s. Some (Stream s)) stream_is)

  event : (os' : LibOs) → FitsTrap os' w.objects u SetContext → FitsEvent os' w.objects c.event SetContext
  event os' trap = on_trap os os' w.objects w.objects c.event FileLength SetContext refl fits.event trap

  -- ---- fstat

  module _ (number : (register u.context 17 == FSTAT) ≡ true) where
    abbrev storing : Cont
    storing = service_storing c (argument c 1) (status true size) 0

    is_stat : is_call u FSTAT ≡ true
    is_stat = and_from (u.cause == 8) (register u.context 17 == FSTAT) call number

    no_seek : is_lseek c ≡ false
    no_seek = ap (λ k. (u.cause == 8) && k == LSEEK) (eqb-true (register u.context 17) FSTAT number) ∙ ap (λ b. b && false) call

    storing_fits : FitsStage (goes_on os storing) w.objects storing StoreBytes
    storing_fits =
        let comes = and_from (stores os u) (is_recorded os u)
        (or_right (reads os u) (is_call u FSTAT && is_some behind) (and_from (is_call u FSTAT) (is_some behind) is_stat (ap is_some file.is))) parts.1 in
        let event = on_trap os (goes_on os storing) w.objects w.objects c.event FileLength StoreBytes refl fits.event (FitsTrap-with_service os (Some storing) w.objects u FileLength StoreBytes trap comes) in
        serving.storing_fits os w.objects c (argument c 1) (status true size) 0 fits.records named_none event
        (subst (λ most. length (status true size) ≤ most) (sym (ap (λ b. cond b 128 (moved (register u.context 12))) is_stat)) (omega (arith, length-status true size)))

    status_stands : Stands (goes_on os storing) v (meant_at os v c FileLength)
    status_stands = record {
      fits = storing_fits;
      means = sym (ap leads_to (served_status m who (trap_in c) seen call there number
          ∙ ap (λ s. silently (machine.stored m who (argument c 1) (machine.stream_status m s) 0)) stream_is));
    }

    stat_stands : Stands (answered_at os c FileLength (Length size)) v (meant_at os v c FileLength)
    stat_stands = subst (λ b. Stands (goes_on (with_change os (cond b (seek_change c (sought size (argument c 1))) Same)) (cond b (service_with_result c (seek_result (sought size (argument c 1)))) storing)) v (meant_at os v c FileLength))
        (sym no_seek) status_stands

  -- ---- lseek from the end

  module _ (number : (register u.context 17 == LSEEK) ≡ true) (end : (register u.context 12 == 2) ≡ true) where
    is_seek : is_lseek c ≡ true
    is_seek = and_from (u.cause == 8) (register u.context 17 == LSEEK) call number

    goes_behind : returns os u ≡ true
    goes_behind = returns-call os u call (ap is_exit (eqb-true (register u.context 17) LSEEK number)) parts.1

    whence_is : register u.context 12 ≡ 2
    whence_is = eqb-true (register u.context 12) 2 end

    meant : meant_at os v c FileLength ≡ leads_to (silently (machine.seek_to m who (sought size (argument c 1))))
    meant = ap leads_to (served_seek m who (trap_in c) seen call there number (ap machine.is_file stream_is) (ap (nat_lt 2) whence_is)
        ∙ ap (λ whence. silently (seek_from m who (machine.seek_base m seen whence))) whence_is
        ∙ ap (λ s. silently (seek_from m who (length (bytes_of m s)))) stream_is)

    abbrev result : ℕ → Cont
    result n = service_with_result c n

    sought_stands : (at : Option ℕ) → Stands (goes_on (with_change os (seek_change c at)) (result (seek_result at))) v (leads_to (silently (machine.seek_to m who at)))
    sought_stands None = record {
      fits = result_fits os w.objects c (error EINVAL) fits.records named_none
          (event (goes_on os (result (error EINVAL))) (FitsTrap-with_service os (Some (result (error EINVAL))) w.objects u FileLength SetContext trap goes_behind));
      means = refl;
    }
    sought_stands (Some at) =
        let placed = with_position os d.id at in
        subst (λ left. Stands (goes_on left (result at)) v (leads_to (silently (machine.seek_to m who (Some at)))))
        (sym (placed-file os u d file.is (ap is_file file.file) at)) (record {
          fits = result_fits placed w.objects c at (FitsRecords-with_position os d.id at fits.records) (FitsObjects-with_position os d.id at w.objects [] None named_none)
              (event (goes_on placed (result at)) (record { up = trap.up; first = trap.first; current = trap.current; home = trap.home; comes = goes_behind }));
          means = ap (λ (n : Mono). leads_to (silently (finished n who at))) (base-placed os v u [] None fits.records named_none home d file.is at);
        })

    seek_stands : Stands (answered_at os c FileLength (Length size)) v (meant_at os v c FileLength)
    seek_stands = subst (λ b. Stands (goes_on (with_change os (cond b (seek_change c (sought size (argument c 1))) Same)) (cond b (result (seek_result (sought size (argument c 1)))) (service_storing c (argument c 1) (status true size) 0))) v (meant_at os v c FileLength))
        (sym is_seek)
        (subst (Stands (goes_on (with_change os (seek_change c (sought size (argument c 1)))) (result (seek_result (sought size (argument c 1))))) v) (sym meant) (sought_stands (sought size (argument c 1))))

  measured_stands : Measures u → Stands (answered_at os c FileLength (Length size)) v (meant_at os v c FileLength)
  measured_stands (seeks number end) = seek_stands number end
  measured_stands (tells number) = stat_stands number

pub keeps_file_length : (os : LibOs) (c : Cont) (w w' : View) (r : Reply) → FitsStage os w.objects c FileLength → IsSound w.objects → AnswersAs w (asked os c FileLength) r w' → Holds os c FileLength w r w'
keeps_file_length os c w w' r fits sound abi =
    by_row os c FileLength w w' r (Length (size os c w fits)) w.objects abi (row os c w fits r) (measured_stands os c w fits (asks os c w fits))
