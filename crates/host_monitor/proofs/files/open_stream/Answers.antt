use Rattle.std.proofs.Common.{◌≡◌, ◌⊎◌, refl, arith, rules}
use Rattle.bas_names.specs.declared.StreamName.TheVariants.{ConIn, ConOut, ConErr}
use Rattle.host_monitor.proofs.Rows.{open_console, CountsUsers-console, leaves_same}
use Rattle.host_monitor.proofs.files.open_stream.Goals as goal

-- The console's ends are opened, and no file's handle is.
pub returns : goal.returns
returns g c =
    let console : (c.args.name.now ≡ ConIn) ⊎ ((c.args.name.now ≡ ConOut) ⊎ (c.args.name.now ≡ ConErr)) = search rules in
    record {
      row = open_console c.requires.opens console c.in_ok-handle.ensures.fresh c.in_ok-handle.ensures.added refl;
      left = leaves_same refl;
      same = tt;
      counted = CountsUsers-console c.requires.counted console c.in_ok-handle.ensures.fresh c.in_ok-handle.ensures.added refl;
      cause = record { later = omega arith; failed_rose = search rules };
      unfaulted = refl;
      want = λ _. refl;
    }
