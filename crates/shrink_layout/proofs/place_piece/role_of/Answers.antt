-- By where the place stands.
use Rattle.shrink_layout.proofs.place_piece.role_of.Goals as goal

pub role_at-requires : goal.role_at-requires
role_at-requires c = (c.args.place.now.at, c.requires.start, c.requires.stands)

pub returns : goal.returns
returns c = c.role_at.ensures c.args.place.now.at c.requires.start c.requires.stands
