use Rattle.re_outside.proofs.Images.{image_sync, image_act}
use Rattle.re_outside.proofs.Honest.{reads_image, image_next}
use Rattle.re_outside.proofs.laws.image_law.Goals as goal

pub returns-clause-synced : goal.returns-clause-synced
returns-clause-synced c = λ start file acts. image_sync start acts file

pub returns-clause-more : goal.returns-clause-more
returns-clause-more c = λ start file acts act. image_act start acts act file

pub returns-clause-reads : goal.returns-clause-reads
returns-clause-reads c = reads_image

pub returns-clause-reads_on : goal.returns-clause-reads_on
returns-clause-reads_on c = image_next
