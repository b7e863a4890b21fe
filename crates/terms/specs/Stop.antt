use Rattle.terms.specs.declared.refusal.Refusal.{Refusal}
use Rattle.terms.specs.declared.fault.Fault.{Fault}
use Rattle.terms.specs.declared.stop.Stop.{Stop}
use Rattle.terms.specs.declared.stop.Stop.TheVariants.{Refused, Faulty}

abbrev pub refused_by : Refusal → Stop
refused_by r = Refused r

abbrev pub fault_by : Fault → Stop
fault_by f = Faulty f
