-- What is copied unread has 2 bytes or 4.
use Rattle.std.proofs.Common.{ℕ, List, Bool, true, false, cond, eqb}
use Rattle.zc_base.specs.Fields.{half_in, word_in}
use Rattle.block_cut.specs.Items.{raw_in}
use Rattle.block_cut.specs.declared.item.Item.{Item}
use Rattle.block_cut.specs.declared.item.Item.TheVariants.{Raw, RawShort}

-- what holds of both kinds of items that are copied unread holds of these bytes, whatever their number
pub raw_by : (P : Item → Type 0) → ((h : ℕ) → P (RawShort h)) → ((w : ℕ) → P (Raw w)) → (size : ℕ) (bytes : List ℕ) (n : ℕ) → P (raw_in size bytes n)
raw_by P short word size bytes n = by (eqb size 2)
  where
    by : (b : Bool) → P (cond b (RawShort (half_in bytes n)) (Raw (word_in bytes n)))
    by true = short (half_in bytes n)
    by false = word (word_in bytes n)
