use Rattle.std.proofs.Common.{rules}
use Rattle.std.proofs.lemmas.Fn.{filter_same}
use Rattle.turn_sched.proofs.Without.{contains_by_length, same_by_length}
use Rattle.turn_sched.proofs.keys.take_out.Goals as goal

pub returns-clause-rest : goal.returns-clause-rest
returns-clause-rest c = filter_same _ _ _ (λ x b f' k. search rules) _ _ c.retain.ensures.filtered

pub returns-clause-found : goal.returns-clause-found
returns-clause-found c = contains_by_length c.args.keys.now.items c.retain.new.self.items c.args.key c.len-before.result c.len.result (returns-clause-rest c) (search rules) (search rules)

pub returns-clause-same : goal.returns-clause-same
returns-clause-same c = same_by_length c.args.keys.now.items c.retain.new.self.items c.args.key c.len-before.result c.len.result (returns-clause-rest c) (search rules) (search rules)
