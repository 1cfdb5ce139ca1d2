-- The regions of an image's memory, and what reaches them.
use Rattle.std.specs.Prelude.{ℕ, ◌-◌, ◌%◌, ◌&&◌, Bool, List, take}
use Rattle.rv_decode.specs.Memory.{Kind, Region, Text, Data, Stack, extent_of, is_data, is_stack, is_text, spans}
use Rattle.zc_machine.specs.Poked.{is_segment}
use Rattle.zc_machine.specs.declared.region.AccessKind.{AccessKind}
use Rattle.zc_machine.specs.declared.region.AccessKind.TheVariants as access
use Rattle.zc_machine.specs.declared.region.RegionKind.{RegionKind}
use Rattle.zc_machine.specs.declared.region.RegionKind.TheVariants as region

-- a region's kind in the definitions
abbrev pub kind_of_region : RegionKind → Kind
kind_of_region region.Text = Text
kind_of_region region.Data = Data
kind_of_region region.Stack = Stack

-- an instruction is fetched from code, data are loaded and stored in data and stack, an interrupt writes to the stack, and what is
-- written from outside goes to segments of data
abbrev pub allowed : AccessKind → Kind → Bool
allowed access.Fetch = is_text
allowed access.Data = is_data
allowed access.Interrupt = is_stack
allowed access.Poke = is_segment

-- whether the cell at an address lies in a region, and the region is one of code
abbrev pub has_code : Region ℕ → ℕ → Bool
has_code r a = is_text r.kind && spans (extent_of r) a 1

-- the cells of a region of this kind, of which those of code are kept in one piece, and all others in pages
abbrev pub cells_by : RegionKind → List ℕ → List ℕ → List ℕ
cells_by region.Text code pages = code
cells_by region.Data code pages = pages
cells_by region.Stack code pages = pages

-- how much of the cells from an address on is kept in one piece: of code all, and of data what comes before the next multiple
-- of 4,096
abbrev pub part_from : Kind → ℕ → List ℕ → List ℕ
part_from Text a cells = cells
part_from Data a cells = take (4096 - a % 4096) cells
part_from Stack a cells = take (4096 - a % 4096) cells
