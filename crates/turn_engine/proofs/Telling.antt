-- What is told of files and input, and of what was written.
use Rattle.std.proofs.Common.{◌≡◌, ℕ, List, [], ◌++◌, refl, sym, ap, subst, ◌∙◌, append_assoc, append-nil, IfSome, is_some}
use Rattle.std.specs.declared.option.Option.{Option}
use Rattle.std.specs.declared.option.Option.TheVariants.{None, Some}
use Rattle.bas_edge.specs.Files.{Files}
use Rattle.abi_calls.specs.World.{Contents, Told, Tells, StaysTold}
use Rattle.mono_model.specs.Readable.{Readable}
use Rattle.mono_model.specs.Written.{Written, nothing, and_then}
use Rattle.turn_engine.specs.Inside.{readable_of, readable, WhereReadable, IsLonger, IsWritten}

-- the files and the input of contents
abbrev pub readable_in : Contents → Readable
readable_in c = record { files = c.files; input = c.input }

readable_of-is : (files : Option Files) (input : Option (List ℕ)) (x : Readable) (c : Contents)
    → readable_of files input ≡ Some x → IfSome files (λ f. f ≡ c.files) → IfSome input (λ i. i ≡ c.input) → x ≡ readable_in c
readable_of-is (Some f) (Some i) x c told files input =
    let here : ◌≡◌ {A = Readable} (record { files = f; input = i }) x = cc in
    sym here ∙ (λ k. record { files = files k; input = input k })
readable_of-is (Some f) None x c told files input = absurd (cc)
readable_of-is None input x c told files i = absurd (cc)

-- files and input that are as told are those that are told
pub readable-is : (t : Told) (x : Readable) (c : Contents) → readable t ≡ Some x → Tells t c → x ≡ readable_in c
readable-is t x c told tells = readable_of-is t.files t.input x c told tells.files tells.input

readable_of-stays : (files files' : Option Files) (input input' : Option (List ℕ)) (x : Readable) (c : Contents)
    → readable_of files input ≡ Some x → is_some files' ≡ is_some files → is_some input' ≡ is_some input
    → IfSome files' (λ f. f ≡ c.files) → IfSome input' (λ i. i ≡ c.input) → readable_of files' input' ≡ Some (readable_in c)
readable_of-stays (Some f) (Some f') (Some i) (Some i') x c told p q files input = λ k. Some (record { files = files k; input = input k })
readable_of-stays (Some f) (Some f') (Some i) None x c told p q files input = absurd (cc)
readable_of-stays (Some f) None (Some i) input' x c told p q files input = absurd (cc)
readable_of-stays (Some f) files' None input' x c told p q files input = absurd (cc)
readable_of-stays None files' input input' x c told p q files i = absurd (cc)

-- what was told stays told
pub readable-stays : (t t' : Told) (x : Readable) (c : Contents) → readable t ≡ Some x → StaysTold t t' → Tells t' c → readable t' ≡ Some (readable_in c)
readable-stays t t' x c told stays tells = readable_of-stays t.files t'.files t.input t'.input x c told stays.files stays.input tells.files tells.input

-- ---- contents that didn't change

option-same : {A : Type 0} (old new : Option A) (v : A) → IfSome old (λ a. a ≡ v) → IfSome new (λ a. a ≡ v) → is_some new ≡ is_some old → new ≡ old
option-same None None v p q e = refl
option-same (Some a) (Some b) v p q e = ap Some (q ∙ sym p)
option-same None (Some b) v p q e = absurd (cc)
option-same (Some a) None v p q e = absurd (cc)

-- what is told of the same contents is the same
pub told-same : (t t' : Told) (c : Contents) → Tells t c → Tells t' c → StaysTold t t' → t' ≡ t
told-same t t' c tells tells' stays =
    let files = option-same t.files t'.files c.files tells.files tells'.files stays.files in
    let input = option-same t.input t'.input c.input tells.input tells'.input stays.input in
    let output = option-same t.output t'.output c.output tells.output tells'.output stays.output in
    let errors = option-same t.errors t'.errors c.errors tells.errors tells'.errors stays.errors in
    λ i. record { files = files i; input = input i; output = output i; errors = errors i }

-- ---- longer texts

pub IsLonger-told : (old new : Option (List ℕ)) (a b more : List ℕ) → IfSome old (λ t. t ≡ a) → IfSome new (λ t. t ≡ b) → is_some new ≡ is_some old → b ≡ a ++ more → IsLonger old new more
IsLonger-told None None a b more p q e is = refl
IsLonger-told (Some t) (Some u) a b more p q e is = ap Some (q ∙ is ∙ ap (λ z. z ++ more) (sym p))
IsLonger-told None (Some u) a b more p q e is = absurd (cc)
IsLonger-told (Some t) None a b more p q e is = absurd (cc)

pub IsLonger-nothing : (t : Option (List ℕ)) → IsLonger t t []
IsLonger-nothing None = refl
IsLonger-nothing (Some t) = ap Some (sym (append-nil t))

pub IsLonger-then : (a b c : Option (List ℕ)) (u v : List ℕ) → IsLonger a b u → IsLonger b c v → IsLonger a c (u ++ v)
IsLonger-then None b c u v first next = subst (λ x. IsLonger x c v) first next
IsLonger-then (Some t) b c u v first next =
    let e : c ≡ Some ((t ++ u) ++ v) = subst (λ x. IsLonger x c v) first next in
    e ∙ ap Some (append_assoc t u v)

pub IsWritten-nothing : (t : Told) → IsWritten t t nothing
IsWritten-nothing t = record { output = IsLonger-nothing t.output; errors = IsLonger-nothing t.errors }

pub IsWritten-then : (t u v : Told) (a b : Written) → IsWritten t u a → IsWritten u v b → IsWritten t v (and_then a b)
IsWritten-then t u v a b first next = record {
  output = IsLonger-then t.output u.output v.output a.output b.output first.output next.output;
  errors = IsLonger-then t.errors u.errors v.errors a.errors b.errors first.errors next.errors;
}

-- ---- where files and input are told

pub where-same : (t : Told) (P : Readable → Readable → Type 0) → ((x : Readable) → P x x) → WhereReadable t t P
where-same t P here = record { holds = λ x e. (x, e, here x) }

pub where-then : (t u v : Told) (P Q R : Readable → Readable → Type 0) → ((x y z : Readable) → P x y → Q y z → R x z)
    → WhereReadable t u P → WhereReadable u v Q → WhereReadable t v R
where-then t u v P Q R joins first next = record {
  holds = λ x e. let a = first.holds x e in let b = next.holds a.0 a.1 in (b.0, b.1, joins x a.0 b.0 a.2 b.2);
}

pub where-weaker : (t u : Told) (P Q : Readable → Readable → Type 0) → ((x y : Readable) → P x y → Q x y) → WhereReadable t u P → WhereReadable t u Q
where-weaker t u P Q then holds = record { holds = λ x e. let a = holds.holds x e in (a.0, a.1, then x a.0 a.2) }
