-- Faults with the names by which they are sorted.
use Rattle.cv_valuation.specs.declared.computed.Cause.{Cause}
use Rattle.cv_valuation.specs.declared.key.Key.{Key}
use Rattle.cv_valuation.specs.Keys.{key_text}
use Rattle.cv_element.specs.declared.faults.Named.{Named}

-- the fault with the name of its key
abbrev pub named : Key × Cause → Named
named fault = record { text = key_text fault.0; key = fault.0; cause = fault.1 }

-- the fault without the name
abbrev pub fault_of : Named → Key × Cause
fault_of fault = (fault.key, fault.cause)
