use Rattle.cept_profile.proofs.ControlSettings.{settings-control}
use Rattle.cept_profile.proofs.law.control_settings.settings_look_back.Goals as goal

pub returns : goal.returns
returns c = settings-control
