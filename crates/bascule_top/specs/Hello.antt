-- A run worked out: the program /bin/hi, which writes hi and a line feed and exits with 0.
use Rattle.std.specs.Prelude.{◌≡◌, List, ℕ, [], ◌∷◌, ◌++◌, codes}
use Rattle.mono_model.specs.Machine.{Mono}
use Rattle.mono_model.specs.Readable.{Readable}
use Rattle.mono_model.specs.Starting.{Runs, boot}
use Rattle.mono_model.specs.Turns.{Exited, run_of}
use Rattle.bascule_top.specs.Commands.{Launch, TURNS, start_settings, start_job}

abbrev pub hello_name : List ℕ
hello_name = codes "/bin/hi"

-- It is started without further arguments.
abbrev pub hello : Launch
hello = record { name = hello_name; args = [] }

-- The program's file. From byte 120 on:
--     li a0, 1; auipc a1, 0; addi a1, a1, 32; li a2, 3; li a7, 64; ecall;
--     li a0, 0; li a7, 93; ecall
-- and behind them the text.
unfoldable pub hello_file : List ℕ
hello_file =
    0x7f ∷ 0x45 ∷ 0x4c ∷ 0x46 ∷ 0x02 ∷ 0x01 ∷ 0x01 ∷ 0 ∷ 0 ∷ 0 ∷ 0 ∷ 0 ∷ 0 ∷ 0 ∷ 0 ∷ 0 ∷
    0x02 ∷ 0 ∷ 0xf3 ∷ 0 ∷ 0x01 ∷ 0 ∷ 0 ∷ 0 ∷ 0x78 ∷ 0 ∷ 0x01 ∷ 0 ∷ 0 ∷ 0 ∷ 0 ∷ 0 ∷
    0x40 ∷ 0 ∷ 0 ∷ 0 ∷ 0 ∷ 0 ∷ 0 ∷ 0 ∷ 0 ∷ 0 ∷ 0 ∷ 0 ∷ 0 ∷ 0 ∷ 0 ∷ 0 ∷
    0 ∷ 0 ∷ 0 ∷ 0 ∷ 0x40 ∷ 0 ∷ 0x38 ∷ 0 ∷ 0x01 ∷ 0 ∷ 0 ∷ 0 ∷ 0 ∷ 0 ∷ 0 ∷ 0 ∷
    0x01 ∷ 0 ∷ 0 ∷ 0 ∷ 0x07 ∷ 0 ∷ 0 ∷ 0 ∷ 0x78 ∷ 0 ∷ 0 ∷ 0 ∷ 0 ∷ 0 ∷ 0 ∷ 0 ∷
    0x78 ∷ 0 ∷ 0x01 ∷ 0 ∷ 0 ∷ 0 ∷ 0 ∷ 0 ∷ 0x78 ∷ 0 ∷ 0x01 ∷ 0 ∷ 0 ∷ 0 ∷ 0 ∷ 0 ∷
    0x27 ∷ 0 ∷ 0 ∷ 0 ∷ 0 ∷ 0 ∷ 0 ∷ 0 ∷ 0x27 ∷ 0 ∷ 0 ∷ 0 ∷ 0 ∷ 0 ∷ 0 ∷ 0 ∷
    0 ∷ 0x10 ∷ 0 ∷ 0 ∷ 0 ∷ 0 ∷ 0 ∷ 0 ∷ 0x13 ∷ 0x05 ∷ 0x10 ∷ 0 ∷ 0x97 ∷ 0x05 ∷ 0 ∷ 0 ∷
    0x93 ∷ 0x85 ∷ 0x05 ∷ 0x02 ∷ 0x13 ∷ 0x06 ∷ 0x30 ∷ 0 ∷ 0x93 ∷ 0x08 ∷ 0 ∷ 0x04 ∷ 0x73 ∷ 0 ∷ 0 ∷ 0 ∷
    0x13 ∷ 0x05 ∷ 0 ∷ 0 ∷ 0x93 ∷ 0x08 ∷ 0xd0 ∷ 0x05 ∷ 0x73 ∷ 0 ∷ 0 ∷ 0 ∷ 0x68 ∷ 0x69 ∷ 0x0a ∷ []

abbrev pub hello_text : List ℕ
hello_text = codes "hi" ++ 10 ∷ []

-- Over these files and this input the program starts, and its run ends with exit code 0 after 2
-- turns. It wrote the text to the output and nothing to the errors; the input and the files are as
-- they were.
pub record SaysHello (x : Readable) : Type 0 where
  pub machine : Mono
  pub booted : boot start_settings x (start_job hello) ≡ Runs machine
  pub ends : (run_of TURNS machine).end ≡ Exited 0
  pub turns : (run_of TURNS machine).last.positions.turns ≡ 2
  pub output : (run_of TURNS machine).written.output ≡ hello_text
  pub errors : (run_of TURNS machine).written.errors ≡ []
  pub input : (run_of TURNS machine).last.input ≡ x.input
  pub files : (run_of TURNS machine).last.files ≡ x.files
