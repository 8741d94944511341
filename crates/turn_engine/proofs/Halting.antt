-- A service or a turn that is given up.
use Rattle.std.proofs.Common.{◌≡◌, ◌⊎◌, inl, inr, ℕ, List, [], ◌∷◌, ◌++◌, zero, suc, take, drop, length, arith, refl, sym, ap, subst, ◌∙◌, append_assoc, append-nil}
use Rattle.std.proofs.lemmas.List.{take-append-drop, length-append, length-drop}
use Rattle.std.specs.declared.option.Option.{Option}
use Rattle.std.specs.declared.option.Option.TheVariants.{None, Some}
use Rattle.bas_edge.specs.Files.{Files}
use Rattle.abi_calls.specs.declared.call.Call.{Call}
use Rattle.abi_calls.specs.declared.reply.Reply.{Reply}
use Rattle.abi_calls.specs.Objects.{Objects}
use Rattle.abi_calls.specs.World.{Told}
use Rattle.abi_calls.specs.Abi.{Answers}
use Rattle.abi_calls.specs.Failing.{with_text, without_front, IsPartWritten, IsPartTaken, IsPartDone, Leaves, Nothing, Part}
use Rattle.abi_calls.specs.Sound.{IsSound}
use Rattle.mono_model.specs.Readable.{Readable}
use Rattle.mono_model.specs.Written.{Written, nothing, and_then}
use Rattle.mono_model.specs.Starting.{Started}
use Rattle.libos_state.specs.Meaning.{Meaning}
use Rattle.libos_state.specs.Pending.{pending}
use Rattle.libos_state.specs.Answered.{answered}
use Rattle.libos_state.specs.Fits.{Fits}
use Rattle.libos_state.specs.Laws.{IsRest, files_in, KeepsMeaning}
use Rattle.libos_state.proofs.Stages.{answered_keeps}
use Rattle.turn_engine.specs.Inside.{readable_of, readable, WhereReadable, IsLonger}
use Rattle.turn_engine.specs.Moment.{Moment, moment, meaning_at}
use Rattle.turn_engine.specs.Serves.{Carries, Serves}
use Rattle.turn_engine.specs.Halts.{IsGivenUp, Halts, ServesNoTrap}
use Rattle.turn_engine.proofs.Telling.{IsWritten-nothing, IsWritten-then, where-same, where-then}
use Rattle.turn_engine.proofs.Carrying.{IsRest-same, IsRest-then, files_in-then, Carries-answered, Serves-answered, told-start, pending-start}

-- nothing was done
pub IsGivenUp-same : (t : Told) (meant : Meaning) (x : Readable) → IsGivenUp t t meant x x
IsGivenUp-same t meant x = record {
  partly = record { part = nothing; rest = meant.1; output = refl; errors = refl; written = IsWritten-nothing t };
  input = IsRest-same x.input;
  files = inl refl;
}

pub Halts-same : (a : Moment) → Halts a a.told
Halts-same a = record { halts = where-same a.told (λ x y. IsGivenUp a.told a.told (meaning_at a x) x y) (λ x. IsGivenUp-same a.told (meaning_at a x) x) }

-- first a part of the service, then it is given up
pub IsGivenUp-carried : (a b : Moment) (t : Told) (x y z : Readable) → Carries a b x y → IsGivenUp b.told t (meaning_at b y) y z → IsGivenUp a.told t (meaning_at a x) x z
IsGivenUp-carried a b t x y z first next =
    let p = next.partly in
    record {
      partly = record {
        part = and_then first.written p.part;
        rest = p.rest;
        output = ap (λ (m : Meaning). m.1.output) first.same ∙ ap (λ w. first.written.output ++ w) p.output ∙ sym (append_assoc first.written.output p.part.output p.rest.output);
        errors = ap (λ (m : Meaning). m.1.errors) first.same ∙ ap (λ w. first.written.errors ++ w) p.errors ∙ sym (append_assoc first.written.errors p.part.errors p.rest.errors);
        written = IsWritten-then a.told b.told t first.written p.part first.told p.written;
      };
      input = IsRest-then x.input y.input z.input first.input next.input;
      files = files_in-then (meaning_at a x).0 x.files y.files z.files first.files
          (subst (λ s. (z.files ≡ y.files) ⊎ (z.files ≡ files_in s y.files)) (sym (ap (λ (m : Meaning). m.0) first.same)) next.files);
    }

pub Halts-served : (a b : Moment) (t : Told) → Serves a b → Halts b t → Halts a t
Halts-served a b t serves halts = record {
  halts = where-then a.told b.told t (Carries a b) (λ y z. IsGivenUp b.told t (meaning_at b y) y z) (λ x z. IsGivenUp a.told t (meaning_at a x) x z)
      (λ x y z. IsGivenUp-carried a b t x y z) serves.means halts.halts;
}

-- ---- a call that fails

-- A first part of what was to be written is told.
record PartOf (old now : Option (List ℕ)) (whole : List ℕ) : Type 0 where
  pub front : List ℕ
  pub rest : List ℕ
  pub is : whole ≡ front ++ rest
  pub longer : IsLonger old now front

same_end : (t xs ys : List ℕ) → t ++ xs ≡ t ++ ys → xs ≡ ys
same_end [] xs ys e = e
same_end (x ∷ t) xs ys e = same_end t xs ys (let f : t ++ xs ≡ t ++ ys = cc in f)

same_some : {A : Type 0} (a b : A) → Some a ≡ Some b → a ≡ b
same_some a b e = cc

part_of : (old now whole : Option (List ℕ)) (all : List ℕ) → IsPartWritten old now whole → IsLonger old whole all → PartOf old now all
part_of None now whole all part longer = record { front = []; rest = all; is = refl; longer = part.is }
part_of (Some t) now whole all part longer =
    let is : whole ≡ Some ((t ++ part.written) ++ part.missing) = part.then ∙ ap (λ o. with_text o part.missing) part.is in
    let e : t ++ all ≡ (t ++ part.written) ++ part.missing = same_some _ _ (sym longer ∙ is) in
    record {
      front = part.written;
      rest = part.missing;
      is = same_end t all (part.written ++ part.missing) (e ∙ append_assoc t part.written part.missing);
      longer = part.is;
    }

-- Some of the input was taken.
record RestOf (input : List ℕ) (now : Option (List ℕ)) : Type 0 where
  pub left : List ℕ
  pub told : now ≡ Some left
  pub rest : IsRest left input

rest_of : (old now whole : Option (List ℕ)) (input : List ℕ) → old ≡ Some input → IsPartTaken old now whole → RestOf input now
rest_of old now whole input told part = record {
  left = drop part.taken input;
  told = part.is ∙ ap (λ o. without_front o part.taken) told;
  rest = record { taken = take part.taken input; is = sym (take-append-drop part.taken input) };
}

-- The files are those before, or all that the row leaves.
record FilesOf (x y : Files) (now : Option Files) : Type 0 where
  pub files : Files
  pub told : now ≡ Some files
  pub either : (files ≡ x) ⊎ (files ≡ y)

files_of : (old now whole : Option Files) (x y : Files) → old ≡ Some x → whole ≡ Some y → (now ≡ old) ⊎ (now ≡ whole) → FilesOf x y now
files_of old now whole x y before after (inl p) = record { files = x; told = p ∙ before; either = inl refl }
files_of old now whole x y before after (inr p) = record { files = y; told = p ∙ after; either = inr refl }

-- Both are told.
record BothTold (t : Told) (x : Readable) : Type 0 where
  pub files : t.files ≡ Some x.files
  pub input : t.input ≡ Some x.input

both_of : (files : Option Files) (input : Option (List ℕ)) (x : Readable) → readable_of files input ≡ Some x → (files ≡ Some x.files) × (input ≡ Some x.input)
both_of (Some f) (Some i) x told =
    let same : ◌≡◌ {A = Readable} (record { files = f; input = i }) x = cc in
    (ap (λ (c : Readable). Some c.files) same, ap (λ (c : Readable). Some c.input) same)
both_of (Some f) None x told = absurd (cc)
both_of None input x told = absurd (cc)

both_told : (t : Told) (x : Readable) → readable t ≡ Some x → BothTold t x
both_told t x told = let both = both_of t.files t.input x told in record { files = both.0; input = both.1 }

files_part : (s : Started) (x y z : Files) → (y ≡ x) ⊎ (y ≡ files_in s x) → (z ≡ x) ⊎ (z ≡ y) → (z ≡ x) ⊎ (z ≡ files_in s x)
files_part s x y z whole (inl p) = inl p
files_part s x y z (inl q) (inr p) = inl (p ∙ q)
files_part s x y z (inr q) (inr p) = inr (p ∙ q)

-- What stands after a part of what leads to b is on the way to what a stands for.
pub Halts-part : (a b : Moment) (t : Told) → WhereReadable a.told b.told (Carries a b) → IsPartDone a.told t b.told → Halts a t
Halts-part a b t carries part = record {
  halts = record {
    holds = λ x e.
        let on = carries.holds x e in
        let y = on.0 in
        let first = on.2 in
        let before = both_told a.told x e in
        let after = both_told b.told y on.1 in
        let output = part_of a.told.output t.output b.told.output first.written.output part.output first.told.output in
        let errors = part_of a.told.errors t.errors b.told.errors first.written.errors part.errors first.told.errors in
        let input = rest_of a.told.input t.input b.told.input x.input before.input part.input in
        let files = files_of a.told.files t.files b.told.files x.files y.files before.files after.files part.files in
        let z : Readable = record { files = files.files; input = input.left } in
        let rest : Written = record { output = output.rest ++ (meaning_at b y).1.output; errors = errors.rest ++ (meaning_at b y).1.errors } in
        let all_output : (meaning_at a x).1.output ≡ output.front ++ rest.output = ap (λ (m : Meaning). m.1.output) first.same ∙ ap (λ w. w ++ (meaning_at b y).1.output) output.is
        ∙ append_assoc output.front output.rest (meaning_at b y).1.output in
        let all_errors : (meaning_at a x).1.errors ≡ errors.front ++ rest.errors = ap (λ (m : Meaning). m.1.errors) first.same ∙ ap (λ w. w ++ (meaning_at b y).1.errors) errors.is
        ∙ append_assoc errors.front errors.rest (meaning_at b y).1.errors in
        let given : IsGivenUp a.told t (meaning_at a x) x z = record {
          partly = record {
            part = record { output = output.front; errors = errors.front };
            rest = rest;
            output = all_output;
            errors = all_errors;
            written = record { output = output.longer; errors = errors.longer };
          };
          input = input.rest;
          files = files_part (meaning_at a x).0 x.files y.files z.files first.files files.either;
        } in
        (z, (λ k. readable_of (files.told k) (input.told k)), given);
  };
}

-- ---- the pending call

-- the reply is lost
pub Halts-answered : (a b : Moment) (call : Call) (r : Reply) → b.os ≡ answered a.os r → pending a.os ≡ Some call → Fits a.os a.objects → IsSound a.objects
    → Answers a.objects a.told call r b.objects b.told → Halts a b.told
Halts-answered a b call r value asks fits sound row =
    Halts-served a b b.told (Serves-answered a b call r (subst (KeepsMeaning a.os r) (sym value) (answered_keeps a.os r)) asks fits sound row) (Halts-same b)

-- the call failed
pub Halts-failed : (a : Moment) (call : Call) (t : Told) → pending a.os ≡ Some call → Fits a.os a.objects → IsSound a.objects → Leaves a.objects call a.told t → Halts a t
Halts-failed a call t asks fits sound (Nothing same) = subst (Halts a) (sym same) (Halts-same a)
Halts-failed a call t asks fits sound (Part part) =
    let b : Moment = moment (answered a.os part.reply) part.objects part.whole a.journal a.answered in
    Halts-part a b t (Carries-answered a b call part.reply (answered_keeps a.os part.reply) asks fits sound part.answers) part.part

-- ---- a start that is given up changes nothing

nothing_put : (xs ys zs : List ℕ) → (xs ++ ys) ++ zs ≡ xs → xs ++ ys ≡ xs
nothing_put xs [] zs e = append-nil xs
nothing_put xs (y ∷ ys) zs e = absurd (let n = ap (length {A = ℕ}) e in omega (arith, n, length-append (xs ++ y ∷ ys) zs, length-append xs (y ∷ ys)))

part_put : (old now : Option (List ℕ)) → IsPartWritten old now old → now ≡ old
part_put None now part = part.is
part_put (Some t) now part =
    let e : t ≡ (t ++ part.written) ++ part.missing = same_some _ _ (part.then ∙ ap (λ o. with_text o part.missing) part.is) in
    part.is ∙ ap Some (nothing_put t part.written part.missing (sym e))

nothing_taken : (n m : ℕ) (xs : List ℕ) → drop m (drop n xs) ≡ xs → drop n xs ≡ xs
nothing_taken zero m xs e = refl
nothing_taken (suc n) m [] e = refl
nothing_taken (suc n) m (x ∷ xs) e =
    absurd (let long = ap (length {A = ℕ}) e in omega (arith, long, length-drop m (drop n xs), length-drop n xs))

part_taken : (old now : Option (List ℕ)) → IsPartTaken old now old → now ≡ old
part_taken None now part = part.is
part_taken (Some t) now part =
    let e : t ≡ drop part.missing (drop part.taken t) = same_some _ _ (part.then ∙ ap (λ o. without_front o part.missing) part.is) in
    part.is ∙ ap Some (nothing_taken part.taken part.missing t (sym e))

either_same : {A : Type 0} {x y : A} → (y ≡ x) ⊎ (y ≡ x) → y ≡ x
either_same (inl p) = p
either_same (inr p) = p

-- a part of nothing is nothing
told-part : (t t' : Told) → IsPartDone t t' t → t' ≡ t
told-part t t' part =
    let files = either_same part.files in
    let input = part_taken t.input t'.input part.input in
    let output = part_put t.output t'.output part.output in
    let errors = part_put t.errors t'.errors part.errors in
    λ i. record { files = files i; input = input i; output = output i; errors = errors i }

-- the call failed
pub start-failed : (a : Moment) (call : Call) (t : Told) → pending a.os ≡ Some call → Fits a.os a.objects → IsSound a.objects → Leaves a.objects call a.told t → ServesNoTrap a.os → t ≡ a.told
start-failed a call t asks fits sound (Nothing same) start = same
start-failed a call t asks fits sound (Part part) start =
    let b : Moment = moment (answered a.os part.reply) part.objects part.whole a.journal a.answered in
    let whole : part.whole ≡ a.told = told-start a b call part.reply (answered_keeps a.os part.reply) asks fits sound part.answers (pending-start a.os call asks start) in
    told-part a.told t (subst (IsPartDone a.told t) whole part.part)

-- the reply is lost
pub start-answered : (a : Moment) (call : Call) (r : Reply) (o : Objects) (t : Told) → pending a.os ≡ Some call → Fits a.os a.objects → IsSound a.objects
    → Answers a.objects a.told call r o t → ServesNoTrap a.os → t ≡ a.told
start-answered a call r o t asks fits sound row start =
    told-start a (moment (answered a.os r) o t a.journal a.answered) call r (answered_keeps a.os r) asks fits sound row (pending-start a.os call asks start)
