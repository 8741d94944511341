use Rattle.host_files.proofs.Followed.{deletes, renames, shares, closes}
use Rattle.host_files.proofs.serve.serve.Goals as goal

pub returns-after-reply-clause-row : goal.returns-after-reply-clause-row
returns-after-reply-clause-row g c = rw c.in-StreamOpen.is c.in_ok-reply-in-StreamOpen.ensures.row

pub returns-in-StreamRead-clause-row : goal.returns-in-StreamRead-clause-row
returns-in-StreamRead-clause-row g c = rw c.in-StreamRead.is c.read_file.ensures.row

pub returns-in-StreamWrite-clause-row : goal.returns-in-StreamWrite-clause-row
returns-in-StreamWrite-clause-row g c = rw (c.in-StreamWrite.is, ← c.as_slice.ensures) c.write_file.ensures.row

pub returns-in-StreamLength-clause-row : goal.returns-in-StreamLength-clause-row
returns-in-StreamLength-clause-row g c = rw c.in-StreamLength.is c.measure_file.ensures.row

pub returns-in-StreamSetLength-clause-row : goal.returns-in-StreamSetLength-clause-row
returns-in-StreamSetLength-clause-row g c = rw c.in-StreamSetLength.is c.resize_file.ensures.row

pub returns-in-StreamDelete-clause-row : goal.returns-in-StreamDelete-clause-row
returns-in-StreamDelete-clause-row g c =
    rw c.in-StreamDelete.is (deletes (g.E.Store.files c.args.store.now) (g.E.Store.files c.delete_file.new.store) c.delete_file.result c.args.users.now c.args.name.now c.in-StreamDelete.name
    c.has.ensures c.delete_file.ensures.row)

pub returns-in-StreamRename-clause-row : goal.returns-in-StreamRename-clause-row
returns-in-StreamRename-clause-row g c =
    rw (c.in-StreamRename.is, ← c.as_slice-to.ensures) (renames (g.E.Store.files c.args.store.now) (g.E.Store.files c.rename_file.new.store) c.rename_file.result c.args.users.now c.args.name.now c.in-StreamRename.from c.as_slice-to.result.now
    c.has-in-StreamRename.ensures c.has-in-StreamRename-2.ensures c.rename_file.ensures.row)

pub returns-in_ok-add-in-Share-clause-row : goal.returns-in_ok-add-in-Share-clause-row
returns-in_ok-add-in-Share-clause-row g c = rw c.in-Share.is (shares c.args.users.now c.in-Share.stream c.args.name.now)

pub returns-in-Close-clause-row : goal.returns-in-Close-clause-row
returns-in-Close-clause-row g c = rw c.in-Close.is (closes c.args.users.now c.in-Close.handle c.args.name.now)
