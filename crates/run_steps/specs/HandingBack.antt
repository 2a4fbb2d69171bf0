-- What a refused delivery leaves of its page.
use Rattle.std.specs.Prelude.{◌≡◌, ◌<◌}
use Rattle.boxcar.specs.Table.{Shelves}
use Rattle.handover.specs.Pages.{PreparedPage}
use Rattle.handover.specs.Shelves.{IsOn}
use Rattle.run_steps.specs.declared.delivery.DeliverError.{DeliverError}
use Rattle.run_steps.specs.declared.delivery.DeliverError.TheVariants.{NoMemory, ShelfFull}

-- the page comes back, or it is on the shelf at an index of more than 32 bits
abbrev pub HandsBack : Shelves → PreparedPage → DeliverError → Type 0
HandsBack shelf page (NoMemory back) = back ≡ page
HandsBack shelf page (ShelfFull token) = IsOn shelf token × (token.value ≡ page) × (4_294_967_295 < token.index)
