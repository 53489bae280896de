-- The lemmas are the laws.
use Rattle.surface_equation_laws.proofs.Products.{products_are_small, supports_have_no_clash}
use Rattle.surface_equation_laws.proofs.weight_products_are_small.Goals as goal

pub returns : goal.returns
returns c = record { products = products_are_small; supports = supports_have_no_clash }
