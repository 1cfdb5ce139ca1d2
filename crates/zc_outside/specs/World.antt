-- All that a program finds outside: a store of files and a console.
use Rattle.zc_outside.specs.Desk.{Desk}
use Rattle.zc_outside.specs.Shelf.{Shelf}

-- what a store and a console show
pub record World : Type 0 where
  pub shelf : Shelf
  pub desk : Desk

-- the world of a store and a console
abbrev pub world : Shelf → Desk → World
world shelf desk = record { shelf = shelf; desk = desk }
