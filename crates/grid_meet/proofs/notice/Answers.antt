-- `notice`: where the tip at j looks at the tip at i and that ends it, its event comes anew.
use borrow.Author.Rules.{rules}
use Rattle.grid_meet.proofs.Looks.{notice_enter}
use Rattle.grid_meet.proofs.notice.Goals as goal

pub schedule-requires : goal.schedule-requires
schedule-requires c = notice_enter c.requires (search rules) c.offer.ensures
