-- The objects of the outside that a host stands on.
use Rattle.bas_edge.specs.declared.source.Source as source
use Rattle.bas_edge.specs.declared.store.Store as store
use Rattle.host_objects.specs.declared.numbers.Numbers as numbers
use Rattle.host_monitor.specs.declared.monitor.Monitor.{Monitor}

abbrev pub input_of : {I O P E N : Type 0} {i : source.Ghosts I} {e : store.Ghosts E}
    {n : numbers.Ghosts N} → Monitor I O P E N i e n → I
input_of m = m.outside.input

abbrev pub output_of : {I O P E N : Type 0} {i : source.Ghosts I} {e : store.Ghosts E}
    {n : numbers.Ghosts N} → Monitor I O P E N i e n → O
output_of m = m.outside.output

abbrev pub errors_of : {I O P E N : Type 0} {i : source.Ghosts I} {e : store.Ghosts E}
    {n : numbers.Ghosts N} → Monitor I O P E N i e n → P
errors_of m = m.outside.errors

abbrev pub store_of : {I O P E N : Type 0} {i : source.Ghosts I} {e : store.Ghosts E}
    {n : numbers.Ghosts N} → Monitor I O P E N i e n → E
store_of m = m.outside.files.store
