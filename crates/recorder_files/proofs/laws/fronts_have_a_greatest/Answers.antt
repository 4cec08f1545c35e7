use Rattle.recorder_files.proofs.Cuts.{has_greatest, is_unique, cut_is_whole, whole_is_kept}
use Rattle.recorder_files.proofs.laws.fronts_have_a_greatest.Goals as goal

pub returns : goal.returns
returns c = record { greatest = has_greatest; unique = is_unique; cut = cut_is_whole; whole = whole_is_kept }
