-- A copy of a call, and of a reply, is equal to it.
use Rattle.std.proofs.Common.{◌≡◌, ℕ, refl, sym, ap, ◌∙◌, rules, arith}
use Rattle.std.specs.List.{each_same}
use Rattle.abi_calls.specs.declared.call.Call.{Call}
use Rattle.abi_calls.specs.declared.call.Call.TheVariants.{StreamDelete, StreamRename, StreamOpen, Close, ProcessCreate, MemoryWrite, StreamWrite, Configure, ThreadCreate, ThreadContext}
use Rattle.bas_names.specs.declared.StreamName.{StreamName}
use Rattle.bas_names.specs.declared.StreamName.TheVariants.{File}
use Rattle.bas_names.specs.contracts.StreamNameClone.TheImpl.{by_variants as name_by_variants}
use Rattle.abi_calls.specs.contracts.call.CallClone.TheImpl.{by_variants}
use Rattle.abi_calls.specs.declared.reply.Reply.{Reply}
use Rattle.abi_calls.specs.declared.reply.Reply.TheVariants.{Bytes}
use Rattle.abi_calls.specs.contracts.reply.ReplyClone.TheImpl.{by_variants as reply_by_variants}

same_name : (a b : StreamName) → name_by_variants a b → b ≡ a
same_name (File name) (File other) is = ap File (each_same _ _ is)
same_name (File name) _ is = absurd is
same_name a b is = grind arith

pub same_reply : (a b : Reply) → reply_by_variants a b → b ≡ a
same_reply (Bytes bytes) (Bytes other) is = ap Bytes (each_same _ _ is)
same_reply (Bytes bytes) _ is = absurd is
same_reply a b is = grind arith

pub same_call : (a b : Call) → by_variants a b → b ≡ a
same_call (StreamDelete name) (StreamDelete other) is = ap StreamDelete (each_same _ _ is)
same_call (StreamDelete name) _ is = absurd is
same_call (MemoryWrite p a bs) (MemoryWrite q c cs) is = let bytes = each_same _ _ is.1.1 in let one = is.0 in let two = is.1.0 in cc
same_call (MemoryWrite p a bs) _ is = absurd is
same_call (StreamWrite p a bs) (StreamWrite q c cs) is = let bytes = each_same _ _ is.1.1 in let one = is.0 in let two = is.1.0 in cc
same_call (StreamWrite p a bs) _ is = absurd is
same_call (StreamRename p a) (StreamRename q c) is = let one = each_same _ _ is.0 in let two = each_same _ _ is.1 in cc
same_call (StreamRename p a) _ is = absurd is
same_call (StreamOpen name create exclusive) (StreamOpen b c d) is = let one = same_name _ _ is.0 in let two = is.1.0 in let three = is.1.1 in cc
same_call (StreamOpen name create exclusive) _ is = absurd is
same_call (Configure s p) (Configure t q) is =
    let picks = each_same _ _ is.0.1.1.1.1.0 in
    let randoms = each_same _ _ is.0.1.1.1.1.1 in
    (λ i. Configure (record { start = is.0.0 i; step = is.0.1.0 i; salt = is.0.1.1.0 i; slice = is.0.1.1.1.0 i; picks = picks i; randoms = randoms i }) (is.1 i))
same_call (Configure s p) _ is = absurd is
same_call a b is = grind arith
