-- What a prepared page keeps of its body.
use Rattle.std.specs.Prelude.{◌≤◌, length, drop, ⊤}
use Rattle.handover.specs.Pages.{PreparedPage}
use Rattle.handover.specs.declared.prepared.KeptBody.{KeptBody}
use Rattle.handover.specs.declared.prepared.KeptBody.TheVariants.{Rest, Boxed}

-- the page that is kept: its body is the rest of it, or is stored separately
abbrev pub prepared_page_of : KeptBody → PreparedPage
prepared_page_of (Rest raw page start) = record { page = page; raw = raw.now; body = drop start raw.now }
prepared_page_of (Boxed whole) = record { page = whole.value.page; raw = whole.value.raw.now; body = whole.value.body }

-- a body that is the rest of its page begins in it
abbrev pub BeginsWithin : KeptBody → Type 0
BeginsWithin (Rest raw page start) = start ≤ length raw.now
BeginsWithin (Boxed whole) = ⊤
