use Rattle.cept_profile.proofs.Laws
use Rattle.cept_profile.proofs.law.codes_of_sets.codes_give_signs_or_accents.Goals as goal

pub returns : goal.returns
returns c = record { code = Laws.IsCode-code_of; valid = Laws.IsValidRead-read_as; accent = Laws.read_as-accent }
