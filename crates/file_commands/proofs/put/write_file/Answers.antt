use Rattle.std.proofs.Common.{rules, ◌≡◌, ◌≤◌, length, arith}
use Rattle.file_commands.proofs.Telling.{on_ok, on_err}
use Rattle.file_commands.proofs.Writing.{left_empty, left_piece, writes_first, writes_more, writes_part, writes_all}
use Rattle.file_commands.proofs.put.write_file.Goals as goal

pub returns-in_err-make_empty-clause-left : goal.returns-in_err-make_empty-clause-left
returns-in_err-make_empty-clause-left g c =
    on_err _ _ (left_empty c.args.name.now c.in_ok-file.file.name c.args.bytes.now (g.H.Host.told c.args.host.now) (g.H.Host.told c.make.new.host) (g.H.Host.told c.make_empty.new.host)
    c.requires.named c.in_ok-file.ensures.name c.in_ok-file.ensures.made c.in_err-make_empty.ensures.left)

pub loop-rest-init : goal.loop-rest-init
loop-rest-init g c =
    writes_first c.in_ok-file.file.name c.args.name.now c.args.bytes.now c.in_ok-file.file.stream (g.H.Host.told c.args.host.now) (g.H.Host.told c.make.new.host) (g.H.Host.told c.make_empty.new.host)
    (g.H.Host.objects c.make.new.host) (g.H.Host.objects c.make_empty.new.host) (g.H.Host.fault_count c.args.host.now) (g.H.Host.fault_count c.make_empty.new.host)
    c.requires.named c.in_ok-file.ensures.name c.in_ok-file.ensures.on c.in_ok-make_empty.ensures.objects c.in_ok-file.ensures.made c.in_ok-make_empty.ensures.emptied
    (omega (arith, c.make.ensures.cause.later, c.make_empty.ensures.cause.later))

pub returns-in_err-write-clause-left : goal.returns-in_err-write-clause-left
returns-in_err-write-clause-left g c =
    on_err _ _ (left_piece c.loop-rest.invariant c.min.result c.split_at.result.0.now (g.H.Host.told c.write.new.host) (omega (arith, c.min.ensures)) c.split_at.ensures.front c.in_err-write.ensures.left)

pub loop-rest-preserved : goal.loop-rest-preserved
loop-rest-preserved g c =
    writes_more c.loop-rest.invariant c.min.result c.split_at.result.0.now c.split_at.result.1.now (g.H.Host.objects c.write.new.host) (g.H.Host.told c.write.new.host) (g.H.Host.fault_count c.write.new.host)
    (omega (arith, c.min.ensures)) c.split_at.ensures.front c.split_at.ensures.back c.in_ok-write.ensures.objects c.in_ok-write.ensures.written c.write.ensures.cause.later

pub returns-clause-written : goal.returns-clause-written
returns-clause-written g c =
    let none : length c.loop-rest.rest.now ≡ 0 = grind (arith, c.is_empty.ensures, c.loop-rest-test.false) in
    on_ok _ _ (writes_all c.loop-rest.invariant none (g.H.Host.told c.close.new.host) c.close.ensures.same)

pub returns-clause-left : goal.returns-clause-left
returns-clause-left g c = on_err _ _ (writes_part c.loop-rest.invariant (g.H.Host.told c.close.new.host) c.close.ensures.same)
