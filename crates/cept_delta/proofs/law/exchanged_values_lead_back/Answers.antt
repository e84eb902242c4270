use Rattle.cept_delta.proofs.ExchangedStates.{HasSameLocations-exchanged, HasSameLocations-page, exchanged-twice, unwound-exchanged}
use Rattle.cept_delta.proofs.law.exchanged_values_lead_back.Goals as goal

pub returns-clause-back : goal.returns-clause-back
returns-clause-back c = unwound-exchanged

pub returns-clause-again : goal.returns-clause-again
returns-clause-again c = exchanged-twice

pub returns-clause-locations : goal.returns-clause-locations
returns-clause-locations c = HasSameLocations-exchanged

pub returns-clause-of_page : goal.returns-clause-of_page
returns-clause-of_page c = HasSameLocations-page
