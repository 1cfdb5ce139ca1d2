-- What an image is made of, as plain data.
use Rattle.std.specs.Prelude.{ℕ, List}
use Rattle.zc_base.specs.declared.place.Place.{Place}

-- the entry, e_flags, the text and its address, the data's file bytes and their address, the number of zero bytes after these in
-- memory, and places of the objects' code, each with its address
pub record Parts : Type 0 where
  pub entry : ℕ
  pub flags : ℕ
  pub text_at : ℕ
  pub text : List ℕ
  pub data_at : ℕ
  pub data_bytes : List ℕ
  pub zero : ℕ
  pub places : List (Place × ℕ)
