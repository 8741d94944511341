-- The library OS begins to serve lseek, fstat or ftruncate: it stands for the machine that has served it.
use Rattle.std.specs.Prelude.{◌≡◌, ℕ, ◌^◌, ◌≤◌, ◌==◌, Bool, true, false, cond, not, ◌&&◌, ◌||◌, nat_lt, [], length, is_some, bit_and}
use Rattle.std.specs.Option.{option_map}
use Rattle.std.specs.declared.option.Option.{Option}
use Rattle.std.specs.declared.option.Option.TheVariants.{None, Some}
use Rattle.std.proofs.Common.{refl, sym, ap, subst, ◌∙◌, arith, eqb-true, ltb-false, eq-eqb}
use Rattle.std.proofs.lemmas.Bool.{and_from, or_left, or_right, eqb-false}
use Rattle.abi_calls.specs.declared.threads.Upcall.{Upcall}
use Rattle.abi_calls.specs.Objects.{Object, object_at}
use Rattle.mono_model.specs.Machine as mono
use Rattle.mono_model.specs.Machine.{Mono, register}
use Rattle.mono_model.specs.Calls.{Caller, EBADF, EINVAL, error, silently, finished, is_exit, moved, bytes_of}
use Rattle.mono_model.specs.FileCalls as machine
use Rattle.mono_model.specs.FileCalls.{LSEEK, FSTAT, FTRUNCATE, ESPIPE, sought, status, stored, stream_status, seek_from, seek_base, cut_stream, lseek, lseek_of, fstat, fstat_of, ftruncate, ftruncate_of}
use Rattle.libos_state.specs.declared.cont.Cont.{Cont}
use Rattle.libos_state.specs.declared.cont.Stage.{Stage}
use Rattle.libos_state.specs.declared.cont.Stage.TheVariants.{StoreBytes, FileLength, SetFileLength}
use Rattle.libos_state.specs.declared.notes.Description.{Description}
use Rattle.libos_state.specs.declared.notes.Kind.{Kind}
use Rattle.libos_state.specs.declared.notes.Kind.TheVariants.{ConIn, ConOut, ConErr, File}
use Rattle.libos_state.specs.declared.state.LibOs.{LibOs}
use Rattle.libos_state.specs.declared.state.Boot.TheVariants.{Up}
use Rattle.libos_state.specs.Records.{Visible, base, is_file, stream_seen, description_behind, description_seen}
use Rattle.libos_state.specs.Descriptors.{with_position}
use Rattle.libos_state.specs.Answered.{goes_on, service_storing}
use Rattle.libos_state.specs.Entered as entered
use Rattle.libos_state.specs.Entered.{entered_with, result_of, stage_of, lseek_entered, seek_by, fstat_entered, ftruncate_entered}
use Rattle.libos_state.specs.Meaning.{caller_of, leads_to}
use Rattle.libos_state.specs.Fits.{FitsStage, is_call, is_recorded, is_open_file, is_writable, measures, resizes, reads, stores, returns}
use Rattle.libos_state.specs.Turned.{FitsTrapped}
use Rattle.libos_state.proofs.Rows.{Stands}
use Rattle.libos_state.proofs.Serving as serving
use Rattle.libos_state.proofs.Serving.{numbers_fit, result_fits}
use Rattle.libos_state.proofs.EnteredTraps.{home, trap_at, result_stands, call_returns, seen_behind}
use Rattle.libos_state.proofs.FileCalls.{served_seek, served_status, served_cut}
use Rattle.libos_state.proofs.Placing.{base-placed}
use Rattle.libos_state.proofs.Positions.{FitsRecords-with_position, FitsObjects-with_position}

-- A status has 128 bytes.
pub length-status : (file : Bool) (size : ℕ) → length (status file size) ≡ 128
length-status true size = refl
length-status false size = refl

module _ (os : LibOs) (v : Visible) (u : Upcall) (up : os.boot ≡ Up) (fits : FitsTrapped os v.objects u) (call : (u.cause == 8) ≡ true) where
  abbrev m : Mono
  m = base os v

  abbrev who : Caller
  who = caller_of os u

  abbrev behind : Option Description
  behind = description_behind os u.process (register u.context 10)

  abbrev seen : Description → mono.Description
  seen = description_seen v.objects.live

  there : (d : Description) → behind ≡ Some d → machine.described m who ≡ Some (seen d)
  there d is = seen_behind os v u up fits (register u.context 10) ∙ ap (option_map seen) is

  abbrev object : Description → Option Object
  object d = object_at v.objects d.handle

  abbrev at_stage : Stage → Cont
  at_stage stage = record (entered_with u) { stage = stage }

  call_of : (n : ℕ) → (register u.context 17 == n) ≡ true → is_call u n ≡ true
  call_of n number = and_from (u.cause == 8) (register u.context 17 == n) call number

  -- ---- lseek

  module _ (number : (register u.context 17 == LSEEK) ≡ true) where
    goes_behind : is_exit (register u.context 17) ≡ false
    goes_behind = ap is_exit (eqb-true (register u.context 17) LSEEK number)

    seek_known : (result : ℕ) → Stands (result_of os u result) v (leads_to (silently (finished m who result)))
    seek_known result = result_stands os v u up fits result (call_returns os v u up fits call goes_behind)

    abbrev whence : ℕ
    whence = register u.context 12

    -- the description is put to a position
    sought_stands : (d : Description) → behind ≡ Some d → (at : Option ℕ) → Stands (entered.seek_to os u d.id at) v (leads_to (silently (machine.seek_to m who at)))
    sought_stands d is None = seek_known (error EINVAL)
    sought_stands d is (Some at) =
        let placed = with_position os d.id at in
        let comes : returns os u ≡ true = call_returns os v u up fits call goes_behind in
        record {
          fits = result_fits placed v.objects (entered_with u) at (FitsRecords-with_position os d.id at fits.records) (FitsObjects-with_position os d.id at v.objects [] None fits.objects)
              (record { up = up; first = fits.first; current = fits.current; home = fits.home; comes = comes });
          means = ap (λ (n : Mono). leads_to (silently (finished n who at)))
              (base-placed os v u [] None fits.records fits.objects (home os v u up fits) d is at);
        }

    -- from the begin or the position
    base_is : (d : Description) → nat_lt 2 whence ≡ false → (whence == 2) ≡ false → (start : Bool) → (whence == 0) ≡ start → cond start 0 (cond (whence == 1) d.position (length (bytes_of m (seen d).stream))) ≡ cond start 0 d.position
    base_is d few other true start = refl
    base_is d few other false start =
        let apart = eqb-false whence 2 other in
        let some = eqb-false whence 0 start in
        let most = ltb-false 2 whence few in
        let one : whence ≡ 1 = omega (arith, most, apart, some) in
        ap (λ b. cond b d.position (length (bytes_of m (seen d).stream))) (eq-eqb whence 1 one)

    measuring_fits : (d : Description) → behind ≡ Some d → d.kind ≡ File → (whence == 2) ≡ true → FitsStage (goes_on os (at_stage FileLength)) v.objects (at_stage FileLength) FileLength
    measuring_fits d is file end =
        let comes = and_from (measures os u) (is_recorded os u)
        (and_from (is_call u FSTAT || (is_call u LSEEK && whence == 2)) (is_open_file behind)
        (or_right (is_call u FSTAT) (is_call u LSEEK && whence == 2) (and_from (is_call u LSEEK) (whence == 2) (call_of LSEEK number) end))
        (ap is_open_file is ∙ ap is_file file)) fits.recorded in
        numbers_fit os v.objects (entered_with u) FileLength [] fits.records fits.objects (trap_at os v u up fits (Some (at_stage FileLength)) FileLength comes) refl refl refl refl tt tt

    file_stream : (d : Description) → d.kind ≡ File → machine.is_file (seen d).stream ≡ true
    file_stream d file = ap (λ k. machine.is_file (stream_seen k (object d))) file

    by_whence : (d : Description) → behind ≡ Some d → d.kind ≡ File → (past end : Bool) → nat_lt 2 whence ≡ past → (whence == 2) ≡ end →
        Stands (cond past (result_of os u (error EINVAL)) (cond end (stage_of os u FileLength) (entered.seek_to os u d.id (sought (cond (whence == 0) 0 d.position) (register u.context 11))))) v
        (leads_to (silently (cond past (finished m who (error EINVAL)) (seek_from m who (seek_base m (seen d) whence)))))
    by_whence d is file true end past at = seek_known (error EINVAL)
    by_whence d is file false true past at = record {
      fits = measuring_fits d is file at;
      means = ap leads_to (served_seek m who (u.cause, u.value) (seen d) call (there d is) number (file_stream d file) past);
    }
    by_whence d is file false false past at =
        subst (λ base. Stands (entered.seek_to os u d.id (sought (cond (whence == 0) 0 d.position) (register u.context 11))) v (leads_to (silently (seek_from m who base)))) (sym (base_is d past at (whence == 0) refl))
        (sought_stands d is (sought (cond (whence == 0) 0 d.position) (register u.context 11)))

    by_kind : (d : Description) → behind ≡ Some d → (k : Kind) → d.kind ≡ k →
        Stands (cond (is_file k) (seek_by os u d whence) (result_of os u (error ESPIPE))) v
        (leads_to (silently (cond (not (machine.is_file (stream_seen k (object d)))) (finished m who (error ESPIPE)) (cond (nat_lt 2 whence) (finished m who (error EINVAL)) (seek_from m who (seek_base m (seen d) whence))))))
    by_kind d is ConIn kind = seek_known (error ESPIPE)
    by_kind d is ConOut kind = seek_known (error ESPIPE)
    by_kind d is ConErr kind = seek_known (error ESPIPE)
    by_kind d is File kind = by_whence d is kind (nat_lt 2 whence) (whence == 2) refl refl

    seek_behind : (x : Option Description) → behind ≡ x → Stands (lseek_entered os u x) v (leads_to (silently (lseek_of m who (option_map seen x))))
    seek_behind None is = seek_known (error EBADF)
    seek_behind (Some d) is = by_kind d is d.kind refl

    pub lseek_stands : Stands (lseek_entered os u behind) v (leads_to (silently (lseek m who)))
    lseek_stands = subst (λ x. Stands (lseek_entered os u behind) v (leads_to (silently (lseek_of m who x)))) (sym (seen_behind os v u up fits (register u.context 10)))
        (seek_behind behind refl)

  -- ---- fstat

  module _ (number : (register u.context 17 == FSTAT) ≡ true) where
    stat_known : (result : ℕ) → Stands (result_of os u result) v (leads_to (silently (finished m who result)))
    stat_known result = result_stands os v u up fits result (call_returns os v u up fits call (ap is_exit (eqb-true (register u.context 17) FSTAT number)))

    abbrev storing : Cont
    storing = service_storing (entered_with u) (register u.context 11) (status false 0) 0

    storing_fits : (d : Description) → behind ≡ Some d → FitsStage (goes_on os storing) v.objects storing StoreBytes
    storing_fits d is =
        let comes = and_from (stores os u) (is_recorded os u)
        (or_right (reads os u) (is_call u FSTAT && is_some behind) (and_from (is_call u FSTAT) (is_some behind) (call_of FSTAT number) (ap is_some is))) fits.recorded in
        serving.storing_fits os v.objects (entered_with u) (register u.context 11) (status false 0) 0 fits.records fits.objects (trap_at os v u up fits (Some storing) StoreBytes comes)
        (subst (λ most. length (status false 0) ≤ most) (sym (ap (λ b. cond b 128 (moved (register u.context 12))) (call_of FSTAT number))) (omega (arith, length-status false 0)))

    stat_measuring : (d : Description) → behind ≡ Some d → d.kind ≡ File → FitsStage (goes_on os (at_stage FileLength)) v.objects (at_stage FileLength) FileLength
    stat_measuring d is file =
        let comes = and_from (measures os u) (is_recorded os u)
        (and_from (is_call u FSTAT || (is_call u LSEEK && register u.context 12 == 2)) (is_open_file behind)
        (or_left (is_call u FSTAT) (is_call u LSEEK && register u.context 12 == 2) (call_of FSTAT number)) (ap is_open_file is ∙ ap is_file file)) fits.recorded in
        numbers_fit os v.objects (entered_with u) FileLength [] fits.records fits.objects (trap_at os v u up fits (Some (at_stage FileLength)) FileLength comes) refl refl refl refl tt tt

    terminal_stands : (d : Description) → behind ≡ Some d → Stands (goes_on os storing) v (leads_to (silently (stored m who (register u.context 11) (status false 0) 0)))
    terminal_stands d is = record { fits = storing_fits d is; means = refl }

    stat_kind : (d : Description) → behind ≡ Some d → (k : Kind) → d.kind ≡ k →
        Stands (cond (is_file k) (stage_of os u FileLength) (goes_on os storing)) v (leads_to (silently (stored m who (register u.context 11) (stream_status m (stream_seen k (object d))) 0)))
    stat_kind d is ConIn kind = terminal_stands d is
    stat_kind d is ConOut kind = terminal_stands d is
    stat_kind d is ConErr kind = terminal_stands d is
    stat_kind d is File kind = record {
      fits = stat_measuring d is kind;
      means = ap leads_to (served_status m who (u.cause, u.value) (seen d) call (there d is) number
          ∙ ap (λ j. silently (stored m who (register u.context 11) (stream_status m (stream_seen j (object d))) 0)) kind);
    }

    stat_behind : (x : Option Description) → behind ≡ x → Stands (fstat_entered os u x) v (leads_to (silently (fstat_of m who (option_map seen x))))
    stat_behind None is = stat_known (error EBADF)
    stat_behind (Some d) is = stat_kind d is d.kind refl

    pub fstat_stands : Stands (fstat_entered os u behind) v (leads_to (silently (fstat m who)))
    fstat_stands = subst (λ x. Stands (fstat_entered os u behind) v (leads_to (silently (fstat_of m who x)))) (sym (seen_behind os v u up fits (register u.context 10)))
        (stat_behind behind refl)

  -- ---- ftruncate

  module _ (number : (register u.context 17 == FTRUNCATE) ≡ true) where
    cut_known : (result : ℕ) → Stands (result_of os u result) v (leads_to (silently (finished m who result)))
    cut_known result = result_stands os v u up fits result (call_returns os v u up fits call (ap is_exit (eqb-true (register u.context 17) FTRUNCATE number)))

    abbrev size : ℕ
    size = register u.context 11

    abbrev refused : Bool → Bool → Bool
    refused allowed within = not allowed || not within

    cutting_fits : (d : Description) → behind ≡ Some d → d.kind ≡ File → (bit_and d.access 2 == 2) ≡ true → nat_lt size (2 ^ 63) ≡ true → FitsStage (goes_on os (at_stage SetFileLength)) v.objects (at_stage SetFileLength) SetFileLength
    cutting_fits d is file allowed within =
        let comes = and_from (resizes os u) (is_recorded os u)
        (and_from (is_call u FTRUNCATE) (is_open_file behind && (is_writable behind && nat_lt size (2 ^ 63))) (call_of FTRUNCATE number)
        (and_from (is_open_file behind) (is_writable behind && nat_lt size (2 ^ 63)) (ap is_open_file is ∙ ap is_file file)
        (and_from (is_writable behind) (nat_lt size (2 ^ 63)) (ap is_writable is ∙ allowed) within))) fits.recorded in
        numbers_fit os v.objects (entered_with u) SetFileLength [] fits.records fits.objects (trap_at os v u up fits (Some (at_stage SetFileLength)) SetFileLength comes) refl refl refl refl tt tt

    file_cut : (d : Description) → behind ≡ Some d → d.kind ≡ File → (allowed within : Bool) → (bit_and d.access 2 == 2) ≡ allowed → nat_lt size (2 ^ 63) ≡ within →
        Stands (cond (allowed && within) (stage_of os u SetFileLength) (result_of os u (error EINVAL))) v
        (leads_to (silently (cond (refused allowed within) (finished m who (error EINVAL)) (cut_stream m who size (seen d).stream))))
    file_cut d is file false within allowed short = cut_known (error EINVAL)
    file_cut d is file true false allowed short = cut_known (error EINVAL)
    file_cut d is file true true allowed short = record {
      fits = cutting_fits d is file allowed short;
      means = ap leads_to (served_cut m who (u.cause, u.value) (seen d) call (there d is) number allowed short);
    }

    console_cut : (allowed within : Bool) → Stands (result_of os u (error EINVAL)) v (leads_to (silently (cond (refused allowed within) (finished m who (error EINVAL)) (finished m who (error EINVAL)))))
    console_cut false within = cut_known (error EINVAL)
    console_cut true false = cut_known (error EINVAL)
    console_cut true true = cut_known (error EINVAL)

    cut_kind : (d : Description) → behind ≡ Some d → (k : Kind) → d.kind ≡ k →
        Stands (cond (is_file k && (bit_and d.access 2 == 2 && nat_lt size (2 ^ 63))) (stage_of os u SetFileLength) (result_of os u (error EINVAL))) v
        (leads_to (silently (cond (refused (bit_and d.access 2 == 2) (nat_lt size (2 ^ 63))) (finished m who (error EINVAL)) (cut_stream m who size (stream_seen k (object d))))))
    cut_kind d is ConIn kind = console_cut (bit_and d.access 2 == 2) (nat_lt size (2 ^ 63))
    cut_kind d is ConOut kind = console_cut (bit_and d.access 2 == 2) (nat_lt size (2 ^ 63))
    cut_kind d is ConErr kind = console_cut (bit_and d.access 2 == 2) (nat_lt size (2 ^ 63))
    cut_kind d is File kind =
        subst (λ j. Stands (cond (bit_and d.access 2 == 2 && nat_lt size (2 ^ 63)) (stage_of os u SetFileLength) (result_of os u (error EINVAL))) v
        (leads_to (silently (cond (refused (bit_and d.access 2 == 2) (nat_lt size (2 ^ 63))) (finished m who (error EINVAL)) (cut_stream m who size (stream_seen j (object d))))))) kind
        (file_cut d is kind (bit_and d.access 2 == 2) (nat_lt size (2 ^ 63)) refl refl)

    cut_behind : (x : Option Description) → behind ≡ x → Stands (ftruncate_entered os u x) v (leads_to (silently (ftruncate_of m who (option_map seen x))))
    cut_behind None is = cut_known (error EBADF)
    cut_behind (Some d) is = cut_kind d is d.kind refl

    pub ftruncate_stands : Stands (ftruncate_entered os u behind) v (leads_to (silently (ftruncate m who)))
    ftruncate_stands = subst (λ x. Stands (ftruncate_entered os u behind) v (leads_to (silently (ftruncate_of m who x)))) (sym (seen_behind os v u up fits (register u.context 10)))
        (cut_behind behind refl)
