-- What is told after a call that changes files alone.
use Rattle.std.proofs.Common.{◌≡◌, ◌⊎◌, inl, inr, ℕ, ◌+◌, List, [], ◌∷◌, ◌++◌, zero, suc, take, drop, length, arith, refl, sym, ap, subst, ◌∙◌, append_assoc, append-nil}
use Rattle.std.proofs.lemmas.List.{drop-drop, length-drop}
use Rattle.std.proofs.Math.Seq.{drop-nil}
use Rattle.std.specs.Prelude.{IfSome, is_some, Result, OnOk, OnErr, Ok, Err}
use Rattle.std.specs.Option.{option_map}
use Rattle.std.specs.declared.option.Option.{Option}
use Rattle.std.specs.declared.option.Option.TheVariants.{None, Some}
use Rattle.bas_edge.specs.Files.{Files}
use Rattle.abi_calls.specs.declared.call.Call.{Call}
use Rattle.abi_calls.specs.declared.reply.Reply.{Reply}
use Rattle.abi_calls.specs.Objects.{Objects}
use Rattle.abi_calls.specs.World.{Contents, Told, world_of, with_files}
use Rattle.abi_calls.specs.Abi.{Answers, answer}
use Rattle.abi_calls.specs.Failing.{with_text, without_front, IsPartWritten, IsPartTaken, Leaves, Nothing, Part}
use Rattle.file_commands.specs.Changes.{changed, IsOrIsNot}

-- What is told stays told, and is what it is.
stays : {A : Type 0} (a b : Option A) (x y : A) (g : A → A) → IfSome a (λ v. v ≡ x) → IfSome b (λ v. v ≡ y) → is_some b ≡ is_some a → y ≡ g x → b ≡ option_map g a
stays None None x y g was is same e = refl
stays (Some u) (Some v) x y g was is same e = ap Some (is ∙ e ∙ ap g (sym was))
stays None (Some v) x y g was is same e = absurd (cc)
stays (Some u) None x y g was is same e = absurd (cc)

map_same : {A : Type 0} (a : Option A) → option_map (λ x. x) a ≡ a
map_same None = refl
map_same (Some x) = refl

told_is : (t t' : Told) (files : Option Files) → t'.files ≡ files → t'.input ≡ t.input → t'.output ≡ t.output → t'.errors ≡ t.errors → t' ≡ record t { files = files }
told_is t t' files p q r s = λ i. record { files = p i; input = q i; output = r i; errors = s i }

-- The row of the call changes the files so, and nothing else of the contents.
abbrev pub Changes : (Files → Files) → Objects → Call → Reply → Type 0
Changes g o call r = (x : Contents) → (answer (world_of o x) call r).1.contents ≡ with_files x (g x.files)

pub told_after : {o o' : Objects} {told told' : Told} {call : Call} {r : Reply} (g : Files → Files) → Answers o told call r o' told' → Changes g o call r → told' ≡ changed g told
told_after {o} {o'} {told} {told'} {call} {r} g a change =
    let x : Contents = a.before in
    let after : a.after ≡ with_files x (g x.files) = sym (ap (λ p. p.1.contents) a.abi.row) ∙ change x in
    let input : told'.input ≡ option_map (λ t. t) told.input = stays told.input told'.input x.input a.after.input (λ t. t) a.was.input a.is.input a.stays.input (ap (λ (y : Contents). y.input) after) in
    let output : told'.output ≡ option_map (λ t. t) told.output = stays told.output told'.output x.output a.after.output (λ t. t) a.was.output a.is.output a.stays.output (ap (λ (y : Contents). y.output) after) in
    let errors : told'.errors ≡ option_map (λ t. t) told.errors = stays told.errors told'.errors x.errors a.after.errors (λ t. t) a.was.errors a.is.errors a.stays.errors (ap (λ (y : Contents). y.errors) after) in
    told_is told told' (option_map g told.files)
    (stays told.files told'.files x.files a.after.files g a.was.files a.is.files a.stays.files (ap (λ (y : Contents). y.files) after))
    (input ∙ map_same told.input) (output ∙ map_same told.output) (errors ∙ map_same told.errors)

pub changed-same : (told : Told) → changed (λ files. files) told ≡ told
changed-same told = told_is told (changed (λ files. files) told) told.files (map_same told.files) refl refl refl

pub told_same : {o o' : Objects} {told told' : Told} {call : Call} {r : Reply} → Answers o told call r o' told' → Changes (λ files. files) o call r → told' ≡ told
told_same a change = told_after (λ files. files) a change ∙ changed-same _

-- ---- a call that failed

same_end : (t xs ys : List ℕ) → t ++ xs ≡ t ++ ys → xs ≡ ys
same_end [] xs ys e = e
same_end (x ∷ t) xs ys e = same_end t xs ys (let f : t ++ xs ≡ t ++ ys = cc in f)

same_some : {A : Type 0} (a b : A) → Some a ≡ Some b → a ≡ b
same_some a b e = cc

no_front : (xs ys : List ℕ) → [] ≡ xs ++ ys → xs ≡ []
no_front [] ys e = refl
no_front (x ∷ xs) ys e = absurd (cc)

written_same : (old now whole : Option (List ℕ)) → IsPartWritten old now whole → whole ≡ old → now ≡ old
written_same None now whole part e = part.is
written_same (Some t) now whole part e =
    let all : Some t ≡ Some ((t ++ part.written) ++ part.missing) = sym e ∙ part.then ∙ ap (λ o. with_text o part.missing) part.is in
    let none : [] ≡ part.written ++ part.missing = same_end t [] (part.written ++ part.missing) (append-nil t ∙ same_some _ _ all ∙ append_assoc t part.written part.missing) in
    part.is ∙ ap (λ w. Some (t ++ w)) (no_front part.written part.missing none) ∙ ap Some (append-nil t)

still_there : (t : List ℕ) (n m : ℕ) → t ≡ drop m (drop n t) → drop n t ≡ t
still_there [] n m e = drop-nil n
still_there (x ∷ t) zero m e = refl
still_there (x ∷ t) (suc n) m e =
    let size : length (x ∷ t) ≡ length (drop m (drop (suc n) (x ∷ t))) = ap length e in
    absurd (omega (arith, size, length-drop m (drop (suc n) (x ∷ t)), length-drop (suc n) (x ∷ t)))

taken_same : (old now whole : Option (List ℕ)) → IsPartTaken old now whole → whole ≡ old → now ≡ old
taken_same None now whole part e = part.is
taken_same (Some t) now whole part e =
    let all : Some t ≡ Some (drop part.missing (drop part.taken t)) = sym e ∙ part.then ∙ ap (λ o. without_front o part.missing) part.is in
    part.is ∙ ap Some (still_there t part.taken part.missing (same_some _ _ all))

pub told_left : {o : Objects} {told told' : Told} {call : Call} (g : Files → Files) → Leaves o call told told' → ((r : Reply) → Changes g o call r) → IsOrIsNot g told told'
told_left g (Nothing same) change = inl same
told_left {o} {told} {told'} {call} g (Part p) change =
    let whole : p.whole ≡ changed g told = told_after g p.answers (change p.reply) in
    let input : told'.input ≡ told.input = taken_same told.input told'.input p.whole.input p.part.input (ap (λ (t : Told). t.input) whole) in
    let output : told'.output ≡ told.output = written_same told.output told'.output p.whole.output p.part.output (ap (λ (t : Told). t.output) whole) in
    let errors : told'.errors ≡ told.errors = written_same told.errors told'.errors p.whole.errors p.part.errors (ap (λ (t : Told). t.errors) whole) in
    elim p.part.files as (λ _. IsOrIsNot g told told') [
      | inl e ↦ inl (told_is told told' told.files e input output errors)
      | inr e ↦ inr (told_is told told' (option_map g told.files) (e ∙ ap (λ (t : Told). t.files) whole) input output errors)
    ]

pub left_same : {o : Objects} {told told' : Told} {call : Call} → Leaves o call told told' → ((r : Reply) → Changes (λ files. files) o call r) → told' ≡ told
left_same {o} {told} {told'} l change =
    elim (told_left (λ files. files) l change) as (λ _. told' ≡ told) [
      | inl e ↦ e
      | inr e ↦ e ∙ changed-same told
    ]

pub on_err : {T E : Type 0} (r : Result T E) (P : Type 0) → P → OnErr r P
on_err (Ok x) P p = tt
on_err (Err e) P p = p

pub on_ok : {T E : Type 0} (r : Result T E) (P : Type 0) → P → OnOk r P
on_ok (Ok x) P p = p
on_ok (Err e) P p = tt
