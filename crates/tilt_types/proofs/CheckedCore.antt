-- The core that a query's checks give is that of the query.
use Rattle.std.proofs.Common.{◌≡◌, List, [], Option, Some, None, Ok}
use Rattle.tilt_core.specs.Core.{CoreParts}
use Rattle.tilt_syntax.specs.Tree.{StatementTree}
use Rattle.tilt_types.specs.Checked.{checked, core_of, core_unless}
use Rattle.tilt_types.specs.WellFormed.{first_fault}
use Rattle.tilt_types.specs.declared.fault.CheckFault.{CheckFault}

unless_is : (found : Option CheckFault) (made core : CoreParts) → core_unless found made ≡ Ok core → made ≡ core
unless_is None made core is = cc is
unless_is (Some fault) made core is = absurd (cc is)

pub checked-core : (query : List StatementTree) (core : CoreParts) → checked query ≡ Ok core → core_of query ≡ core
checked-core query core is = unless_is (first_fault 1 [] query) (core_of query) core is
