use Rattle.std.proofs.Common.{◌≡◌, false, refl, arith, rules}
use Rattle.abi_calls.specs.Abi.{is_outside}
use Rattle.host_objects.specs.Objects.{objects_of}
use Rattle.host_monitor.proofs.Counting.{CountsUsers-aside}
use Rattle.host_monitor.proofs.Rows.{row_answered, leaves_same}
use Rattle.host_monitor.proofs.serve.answer_aside.Goals as goal

-- The call reaches nothing of the outside, so its contents stay.
pub returns-in_ok-call-in_default : goal.returns-in_ok-call-in_default
returns-in_ok-call-in_default g c =
    let inside : is_outside (objects_of c.args.objects.now) c.args.call.now ≡ false = search rules in
    record {
      row = row_answered c.in_ok-call-in_default.ensures.row inside refl;
      left = leaves_same refl;
      same = tt;
      counted = CountsUsers-aside c.requires.counted inside c.requires.aside c.in_ok-call-in_default.ensures.row;
      cause = record { later = omega arith; failed_rose = search rules };
      unfaulted = refl;
      want = λ _. refl;
    }
