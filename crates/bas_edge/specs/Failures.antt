-- Objects in memory of which chosen calls fail.
use Rattle.std.specs.Prelude.{◌≡◌, ◌↔◌, ℕ, ◌+◌, ◌-◌, ◌^◌, ◌==◌, min, nat_lt, Bool, ◌&&◌, if◌then◌else◌, List, Result, IsTrue, IsErrOf, refl}
use Rattle.std.specs.Coded.{Coded, code_by, coded×, coded_list, coded_ℕ}
use Rattle.std.specs.List.{list_any}

-- The calls of an object: how many there were, how many of them failed, and the numbers of those
-- that fail.
pub record Calls : Type 0 where
  pub made : ℕ
  pub failed : ℕ
  pub failing : List ℕ

-- The next call fails: its number is one of those that fail. Calls are numbered from 1 up to the
-- greatest `u64`, and later ones never fail.
abbrev pub fails_next : Calls → Bool
fails_next calls =
    nat_lt calls.made (2 ^ 64 - 1) && list_any (λ number. number == calls.made + 1) calls.failing

-- One more call was made, and one more failed if it did. Both counts are held at the greatest
-- `u64`.
abbrev pub after_call : Calls → Calls
after_call calls = record calls {
  made = min (calls.made + 1) (2 ^ 64 - 1);
  failed = if fails_next calls then min (calls.failed + 1) (2 ^ 64 - 1) else calls.failed;
}

-- What an object in memory holds, and its calls.
pub record Failing (A : Type 0) : Type 0 where
  pub held : A
  pub calls : Calls

-- It is stored as the tuple of its parts.
abbrev pub failing_code : {A : Type 0} → Coded A → Coded (Failing A)
failing_code {A} code =
    code_by (A × (ℕ × (ℕ × List ℕ)))
    (coded× code (coded× coded_ℕ (coded× coded_ℕ (coded_list coded_ℕ))))
    (λ it. (it.held, (it.calls.made, (it.calls.failed, it.calls.failing))))
    (λ parts. record {
      held = parts.0;
      calls = record { made = parts.1.0; failed = parts.1.1.0; failing = parts.1.1.1 };
    })
    (λ _. refl)

-- An object that had no call yet.
abbrev pub failing_at : {A : Type 0} → A → List ℕ → Failing A
failing_at held numbers = record {
  held = held;
  calls = record { made = 0; failed = 0; failing = numbers };
}

-- The call was counted, and it failed exactly where its number is one of those that fail.
pub record CountsCall {A T E : Type 0} (failed : E) (old new : Failing A) (result : Result T E)
    : Type 0 where
  pub fails : IsErrOf result failed ↔ IsTrue (fails_next old.calls)
  pub counted : new.calls ≡ after_call old.calls
