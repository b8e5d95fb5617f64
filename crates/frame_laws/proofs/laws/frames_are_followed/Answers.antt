use Rattle.frame_laws.proofs.FrameSteps.{frames_followed}
use Rattle.frame_laws.proofs.laws.frames_are_followed.Goals as goal

pub returns : goal.returns
returns c = frames_followed
