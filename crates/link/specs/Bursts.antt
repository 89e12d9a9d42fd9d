-- What a burst of the code hands back, against what the model's burst hands back. RULES 11.1 and 11.2. Assumes nothing.
use Rattle.std.specs.Prelude.{◌≡◌, List}
use Rattle.model.specs.Burst as model
use Rattle.link.specs.declared.Link.{Link}
use Rattle.link.specs.Steps.{read_of}
use Rattle.link.specs.Links.{SoundLink}

-- l is the model's next link and sound again, and the lent records are the model's
pub record Bursted (b : model.Burst) (l : Link) (records : List model.BurstRecord) : Type 0 where
  pub link_is : read_of l ≡ b.link
  pub records_are : records ≡ b.records
  pub sound : SoundLink l
