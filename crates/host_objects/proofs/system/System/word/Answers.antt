use Rattle.host_objects.proofs.TurnSteps.{word_past}
use Rattle.host_objects.proofs.system.System.word.Goals as goal

pub returns-in-None : goal.returns-in-None
returns-in-None g c = word_past c.args.self.now.settings.picks c.args.self.now.positions.pick c.in-None.ensures.value
