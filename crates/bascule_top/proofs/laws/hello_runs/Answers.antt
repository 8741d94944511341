use Rattle.bascule_top.proofs.Hello.{says_hello}
use Rattle.bascule_top.proofs.laws.hello_runs.Goals as goal

pub returns : goal.returns
returns c = says_hello
