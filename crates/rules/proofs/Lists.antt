-- The report lists every breach of the page once, in order.
use Rattle.form.specs.Model.{Form}
use Rattle.rules.specs.Rank.{Lists}
use Rattle.rules.specs.Report.{breaches}
use Rattle.rules.proofs.Listing.{listed_like}
use Rattle.rules.proofs.Sections.{breaches_listed}
use Rattle.rules.proofs.Sound.{reported_breaks}
use Rattle.rules.proofs.Complete.{breaks_reported}

pub report_lists : (f : Form) → Lists f (breaches f)
report_lists f = (listed_like (reported_breaks f) (breaks_reported f) (λ r u. u) (breaches_listed f)).exactly
