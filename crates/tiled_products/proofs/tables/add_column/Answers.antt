-- The zeros behind a copy of the part are the bytes that the part does not have. Assumes nothing.
use Rattle.tiles.proofs.Choices.{zeros-plus, raised-same}
use Rattle.tiled_products.proofs.tables.add_column.Goals as goal

pub returns : goal.returns
returns g c = raised-same g.row.TILE _ _ _ _ _ _ (zeros-plus g.row.TILE _ _ c.add_part.ensures) c.raise-2.ensures
