use Rattle.cone_definitions.proofs.NamedOrders.{one_named_order_lem}
use Rattle.cone_definitions.proofs.PastLimit.{one_past, none_past}
use Rattle.cone_definitions.proofs.named_orders.Goals as goal

pub returns : goal.returns
returns c = record { one_order = one_named_order_lem; one_large = one_past; none_listed = none_past }
