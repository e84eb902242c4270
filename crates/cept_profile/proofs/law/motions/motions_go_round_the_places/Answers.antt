use Rattle.cept_profile.proofs.CircleOfPlaces.{circle-forward, circle-back, circle-down, circle-up, place-home}
use Rattle.cept_profile.proofs.CircleOfPlaces.{place-returned, place-named}
use Rattle.cept_profile.proofs.law.motions.motions_go_round_the_places.Goals as goal

pub returns : goal.returns
returns c = assumption (circle-forward, circle-back, circle-down, circle-up, place-home, place-returned, place-named)
