-- What the calls on a file change, and what they open.
use Rattle.std.proofs.Common.{◌≡◌, ℕ, ◌+◌, ◌≤◌, ◌==◌, nat_lt, Bool, true, false, cond, List, [], length, arith, refl, sym, ap, subst, ◌∙◌, le-ltb, ne_eqb}
use Rattle.std.proofs.lemmas.Bool.{and_parts, leb-true}
use Rattle.std.specs.declared.option.Option.{Option}
use Rattle.std.specs.declared.option.Option.TheVariants.{None, Some}
use Rattle.bas_edge.specs.Files.{Files, file_of, with_bytes_at, with_length}
use Rattle.bas_names.specs.declared.StreamName.{StreamName}
use Rattle.bas_names.specs.declared.StreamName.TheVariants.{File}
use Rattle.abi_calls.specs.declared.call.Call.TheVariants.{StreamOpen, StreamRead, StreamWrite, StreamLength, StreamSetLength}
use Rattle.abi_calls.specs.declared.object.Object.TheVariants.{Stream}
use Rattle.abi_calls.specs.declared.reply.Reply.{Reply}
use Rattle.abi_calls.specs.declared.reply.Reply.TheVariants.{Done, Handle, Count, NotFound, TooBig}
use Rattle.abi_calls.specs.Objects.{Objects, object_at, with_object}
use Rattle.abi_calls.specs.World.{World, Contents, Told, Answer, world_of, with_files, on_contents, on_files}
use Rattle.abi_calls.specs.Streams.{is_name, named, open_found, open_answer, file_open_row, stream_open_row, stream_read_row, stream_write_row, stream_length_row, stream_set_length_row}
use Rattle.abi_calls.specs.Abi.{Answers, answer, new_number}
use Rattle.bas_items.proofs.NumberMaps.{get-insert-same}
use Rattle.file_commands.specs.Changes.{IsOn, opened}
use Rattle.file_commands.proofs.Telling.{Changes}

pub length_changes : (o : Objects) (name : List ℕ) (h : ℕ) (r : Reply) → IsOn name o h → Changes (λ files. files) o (StreamLength h) r
length_changes o name h r on x = ap (λ object. (stream_length_row (world_of o x) object).1.contents) on

either : (b : Bool) (p q : Answer) (x : Contents) → p.1.contents ≡ x → q.1.contents ≡ x → (cond b p q).1.contents ≡ x
either true p q x e f = e
either false p q x e f = f

pub read_changes : (o : Objects) (name : List ℕ) (h offset count : ℕ) (r : Reply) → IsOn name o h → Changes (λ files. files) o (StreamRead h offset count) r
read_changes o name h offset count r on x =
    ap (λ object. (stream_read_row (world_of o x) offset count r object).1.contents) on ∙ either (nat_lt 65536 count) _ _ x refl refl

pub empty_changes : (o : Objects) (name : List ℕ) (h : ℕ) (r : Reply) → IsOn name o h → Changes (with_length name 0) o (StreamSetLength h 0) r
empty_changes o name h r on x = ap (λ object. (stream_set_length_row (world_of o x) 0 object).1.contents) on

pub write_changes : (o : Objects) (name : List ℕ) (h offset : ℕ) (bytes : List ℕ) (r : Reply) → IsOn name o h → length bytes ≤ 65536 → offset + length bytes ≤ 16777216
    → Changes (with_bytes_at name offset bytes) o (StreamWrite h offset bytes) r
write_changes o name h offset bytes r on small short x =
    let w : World = world_of o x in
    ap (λ object. (stream_write_row w offset bytes r object).1.contents) on
    ∙ ap (λ (b : Bool). (cond b (TooBig, w) (on_contents w (on_files x (cond (nat_lt 16777216 (offset + length bytes)) (TooBig, x.files) (Count (length bytes), with_bytes_at name offset bytes x.files))))).1.contents)
    (le-ltb 65536 (length bytes) small)
    ∙ ap (λ (b : Bool). (on_contents w (on_files x (cond b (TooBig, x.files) (Count (length bytes), with_bytes_at name offset bytes x.files)))).1.contents) (le-ltb 16777216 (offset + length bytes) short)

-- The same, where the call has the bytes as another list.
pub write_changes_as : (o : Objects) (name : List ℕ) (h offset : ℕ) (bytes piece : List ℕ) (r : Reply) → bytes ≡ piece → IsOn name o h → length piece ≤ 65536 → offset + length piece ≤ 16777216
    → Changes (with_bytes_at name offset piece) o (StreamWrite h offset bytes) r
write_changes_as o name h offset bytes piece r e on small short =
    subst (λ b. Changes (with_bytes_at name offset piece) o (StreamWrite h offset b) r) (sym e) (write_changes o name h offset piece r on small short)

-- ---- a file is opened

open_contents : (w : World) (name : StreamName) (h : ℕ) (files : Files) (r : Reply) → files ≡ w.contents.files → (open_answer w name h files r).1.contents ≡ w.contents
open_contents w name h files Done e = ap (λ f. with_files w.contents f) e
open_contents w name h files r e = refl

named_same : (b c : Bool) (files : Files) (row : Reply × Files) → row.1 ≡ files → (cond b (TooBig, files) (cond c (NotFound, files) row)).1 ≡ files
named_same true c files row e = refl
named_same false true files row e = refl
named_same false false files row e = e

found_same : (files : Files) (name : List ℕ) (found : Option (List ℕ)) → (open_found files name false false found).1 ≡ files
found_same files name None = refl
found_same files name (Some bytes) = refl

pub find_changes : (o : Objects) (name : List ℕ) (r : Reply) → Changes (λ files. files) o (StreamOpen (File name) false false) r
find_changes o name r x =
    let row : Reply × Files = file_open_row x.files name false false in
    open_contents (world_of o x) (File name) (new_number r) row.1 row.0
    (named_same (nat_lt 80 (length name)) (length name == 0) x.files (open_found x.files name false false (file_of x.files name)) (found_same x.files name (file_of x.files name)))

is_opened : (w : World) (name : List ℕ) (h : ℕ) (b c create : Bool) (found : Option (List ℕ)) (o' : Objects) (after : Contents)
    → (let row : Reply × Files = cond b (TooBig, w.contents.files) (cond c (NotFound, w.contents.files) (open_found w.contents.files name create false found)) in open_answer w (File name) h row.1 row.0) ≡ (Handle h, world_of o' after)
    → o' ≡ with_object w.objects h (Stream (File name))
is_opened w name h true c create found o' after e = absurd (let f : TooBig ≡ Handle h = ap (λ (p : Answer). p.0) e in cc)
is_opened w name h false true create found o' after e = absurd (let f : NotFound ≡ Handle h = ap (λ (p : Answer). p.0) e in cc)
is_opened w name h false false true None o' after e = sym (ap (λ (p : Answer). p.1.objects) e)
is_opened w name h false false false None o' after e = absurd (let f : NotFound ≡ Handle h = ap (λ (p : Answer). p.0) e in cc)
is_opened w name h false false true (Some bytes) o' after e = sym (ap (λ (p : Answer). p.1.objects) e)
is_opened w name h false false false (Some bytes) o' after e = sym (ap (λ (p : Answer). p.1.objects) e)

pub opened_on : {o o' : Objects} {told told' : Told} (name : List ℕ) (create : Bool) (h : ℕ) → Answers o told (StreamOpen (File name) create false) (Handle h) o' told' → IsOn name o' h
opened_on {o} {o'} name create h a =
    let w : World = world_of o a.before in
    let is : o' ≡ with_object o h (Stream (File name)) = is_opened w name h (nat_lt 80 (length name)) (length name == 0) create (file_of a.before.files name) o' a.after a.abi.row in
    ap (λ (p : Objects). object_at p h) is ∙ get-insert-same o.live h (Stream (File name))

-- The same, where the call has the name as another list.
pub opened_as : {o o' : Objects} {told told' : Told} (name other : List ℕ) (create : Bool) (r : Reply) (h : ℕ) → r ≡ Handle h → other ≡ name → Answers o told (StreamOpen (File other) create false) r o' told' → IsOn name o' h
opened_as {o} {o'} {told} {told'} name other create r h is e a =
    subst (λ n. IsOn n o' h) e (opened_on other create h (subst (λ s. Answers o told (StreamOpen (File other) create false) s o' told') is a))

-- ---- a file is made where it isn't there

-- A name that can be opened is judged by no refusal.
pub record IsJudged (name : List ℕ) : Type 0 where
  pub short : nat_lt 80 (length name) ≡ false
  pub some : (length name == 0) ≡ false

pub is_judged : (name : List ℕ) → is_name name ≡ true → IsJudged name
is_judged name e =
    let both = and_parts _ _ e in
    let some : 1 ≤ length name = leb-true 1 (length name) both.0 in
    record { short = le-ltb 80 (length name) (leb-true (length name) 80 both.1); some = ne_eqb (length name) 0 (λ e. omega arith) }

pub opened_is : (files : Files) (name : List ℕ) → is_name name ≡ true → opened name files ≡ (open_found files name true false (file_of files name)).1
opened_is files name e =
    let j = is_judged name e in
    λ i. (cond (j.short i) (TooBig, files) (cond (j.some i) (NotFound, files) (open_found files name true false (file_of files name)))).1

make_contents : (w : World) (name : List ℕ) (h : ℕ) (b c : Bool) (found : Option (List ℕ)) → b ≡ false → c ≡ false
    → (let row : Reply × Files = cond b (TooBig, w.contents.files) (cond c (NotFound, w.contents.files) (open_found w.contents.files name true false found)) in
    ◌≡◌ {A = Contents} (open_answer w (File name) h row.1 row.0).1.contents (with_files w.contents row.1))
make_contents w name h false false None e f = refl
make_contents w name h false false (Some bytes) e f = refl
make_contents w name h true c found e f = absurd (cc)
make_contents w name h false true found e f = absurd (cc)

pub make_changes : (o : Objects) (name other : List ℕ) (r : Reply) → other ≡ name → is_name name ≡ true → Changes (opened name) o (StreamOpen (File other) true false) r
make_changes o name other r same e =
    let j = is_judged name e in
    subst (λ n. Changes (opened name) o (StreamOpen (File n) true false) r) (sym same)
    (λ x. make_contents (world_of o x) name (new_number r) (nat_lt 80 (length name)) (length name == 0) (file_of x.files name) j.short j.some)
