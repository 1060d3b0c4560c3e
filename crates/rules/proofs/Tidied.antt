-- A form with no breach is tidy.
use Rattle.rules.specs.Tidy.{EmptyMeansTidy}
use Rattle.rules.proofs.TidyPositions as positions
use Rattle.rules.proofs.TidyOwners as owners
use Rattle.rules.proofs.TidyRefers as refers
use Rattle.rules.proofs.TidyFound as found

pub empty_means_tidy : EmptyMeansTidy
empty_means_tidy f none = record {
  within = positions.within f none;
  once = positions.once f none;
  no_other = positions.no_other f none;
  one_last = positions.one_last f none;
  one_id = owners.one_id f none;
  one_group = owners.one_group f none;
  not_both = owners.not_both f none;
  one_name = owners.one_name f none;
  arg_meets = refers.arg_meets f none;
  member_meets = refers.member_meets f none;
  require_meets = refers.require_meets f none;
  conflict_meets = refers.conflict_meets f none;
  one_long = owners.one_long f none;
  one_letter = owners.one_letter f none;
  keyed = found.keyed f none;
  finds = found.finds f none;
  one_key = found.one_key f none;
  found = found.found f;
}
