use Rattle.std.proofs.Common.{refl, rules}
use Rattle.abi_calls.specs.Turn.{pick_of}
use Rattle.host_objects.specs.System.{system_objects}
use Rattle.host_objects.proofs.TurnSteps.{ready_home, turn_by_pick, turn_stuck}
use Rattle.host_objects.proofs.system.System.turn.Goals as goal

pub home-process-requires : goal.home-process-requires
home-process-requires g c = ready_home (system_objects c.args.self.now) _ (pick_of (system_objects c.args.self.now)) c.in-Some.thread c.requires.sound (search rules) refl

pub run-requires-clause-home : goal.run-requires-clause-home
run-requires-clause-home g c = ready_home (system_objects c.args.self.now) _ (pick_of (system_objects c.args.self.now)) c.in-Some.thread c.requires.sound (search rules) refl

pub returns-in_default : goal.returns-in_default
returns-in_default g c = turn_stuck (system_objects c.args.self.now) _ c.args.self.now.schedule.lists refl (search rules) (search rules)

pub returns-in-Ran : goal.returns-in-Ran
returns-in-Ran g c = turn_by_pick (system_objects c.args.self.now) _ c.args.self.now.schedule.lists _ refl (search rules)

pub returns-in-Trapped : goal.returns-in-Trapped
returns-in-Trapped g c = turn_by_pick (system_objects c.args.self.now) _ c.args.self.now.schedule.lists _ refl (search rules)
