-- The contents of an outside that may not tell them: what the calls gave makes up the rest.
use Rattle.std.specs.Prelude.{◌≡◌, ℕ, List, [], ◌++◌, take, drop, unwrap_or, is_some, IfSome}
use Rattle.std.specs.declared.option.Option.{Option}
use Rattle.std.specs.declared.option.Option.TheVariants.{None, Some}
use Rattle.std.specs.FinMap.{empty}
use Rattle.std.proofs.Common.{refl, sym, ap}
use Rattle.std.proofs.lemmas.List.{take_all}
use Rattle.abi_calls.specs.World.{Told, Tells, StaysTold, some_contents}
use Rattle.abi_calls.specs.Failing.{with_text, without_front}
use Rattle.host_monitor.specs.Edges.{TakesAsked}

pub tells_or : {A : Type 0} (told : Option A) (otherwise : A) → IfSome told (λ x. x ≡ unwrap_or told otherwise)
tells_or None otherwise = tt
tells_or (Some x) otherwise = refl

pub Tells-some_contents : (t : Told) → Tells t (some_contents t)
Tells-some_contents t = record { files = tells_or t.files empty; input = tells_or t.input []; output = tells_or t.output []; errors = tells_or t.errors [] }

pub StaysTold-same : (t : Told) → StaysTold t t
StaysTold-same t = record { files = refl; input = refl; output = refl; errors = refl }

-- The bytes that came to what was written are told, where what was written is.
pub tells_with_text : (told : Option (List ℕ)) (bytes : List ℕ) → IfSome (with_text told bytes) (λ x. x ≡ unwrap_or told [] ++ bytes)
tells_with_text None bytes = tt
tells_with_text (Some old) bytes = refl

pub is_some-with_text : (told : Option (List ℕ)) (bytes : List ℕ) → is_some (with_text told bytes) ≡ is_some told
is_some-with_text None bytes = refl
is_some-with_text (Some old) bytes = refl

pub tells_without_front : (told : Option (List ℕ)) (count : ℕ) (left : List ℕ) → IfSome told (λ x. x ≡ left) → IfSome (without_front told count) (λ x. x ≡ drop count left)
tells_without_front None count left tells = tt
tells_without_front (Some old) count left tells = ap (drop count) tells

pub is_some-without_front : (told : Option (List ℕ)) (count : ℕ) → is_some (without_front told count) ≡ is_some told
is_some-without_front None count = refl
is_some-without_front (Some old) count = refl

-- What came is the front of what was there, or of itself where that isn't told.
pub take-asked : {told told' : Option (List ℕ)} {count : ℕ} {bytes : List ℕ} → TakesAsked told count bytes told' → take count (unwrap_or told bytes) ≡ bytes
take-asked {told = None} {told'} {count} {bytes} t = take_all count bytes t.within
take-asked {told = Some old} {told'} {count} {bytes} t = sym t.front
