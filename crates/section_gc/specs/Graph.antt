-- The sections of objects as nodes of a graph: a section is the node of its number among all, and its edges lead to what it
-- refers to.
use Rattle.std.specs.Prelude.{ℕ, Bool, false, true, ◌&&◌, ◌||◌, List, [], ◌∷◌, length, map, filter, if◌then◌else◌}
use Rattle.std.specs.List.{enumerate_from, flat_map}
use Rattle.std.specs.Option.{option_map_or}
use Rattle.elf32_read.specs.Parts.{ObjectParts, SectionParts, is_kept_section}
use Rattle.elf32_read.specs.declared.reloc.Reloc.{Reloc}
use Rattle.psabi_sym.specs.Data.{role_of}
use Rattle.psabi_sym.specs.Fixed.{is_fixed}
use Rattle.psabi_sym.specs.Indexed.{IndexedSection, section_at, sections_before}
use Rattle.psabi_sym.specs.Inputs.{ParsedInputs}
use Rattle.psabi_sym.specs.declared.section_row.SectionRole.{SectionRole}
use Rattle.psabi_sym.specs.declared.section_row.SectionRole.TheVariants as role
use Rattle.psabi_sym.specs.declared.target.Target.{Target}
use Rattle.psabi_sym.specs.declared.target.Target.TheVariants.{Code, Number, Absent, Nowhere}
use Rattle.block_cut.specs.Items.{target_of}
use Rattle.block_cut.specs.Resolved.{asks}
use Rattle.reach.specs.Reach.{mark_of}

-- ---- nodes

-- the number of a section, by its object's index and its own: how many stand before it
abbrev pub node_of : List ObjectParts → ℕ → ℕ → ℕ
node_of objects o i = length (sections_before objects o i)

-- the same as a list, which is empty if there is no such section
abbrev pub nodes_at : List ObjectParts → ℕ → ℕ → List ℕ
nodes_at objects o i = option_map_or (λ _. node_of objects o i ∷ []) (section_at objects o i) []

-- ---- edges

-- the node of the section that a target lies in, if it is a place in code
abbrev pub target_nodes : List ObjectParts → Target → List ℕ
target_nodes objects (Code q) = nodes_at objects q.object q.section
target_nodes objects (Number n) = []
target_nodes objects (Absent n) = []
target_nodes objects Nowhere = []

-- what a relocation of an object refers to, if it asks for something
abbrev pub reloc_nodes : ParsedInputs → ℕ → Reloc → List ℕ
reloc_nodes inputs o r = if asks r then target_nodes inputs.objects (target_of inputs o r) else []

-- what a section refers to
abbrev pub section_nodes : ParsedInputs → IndexedSection → List ℕ
section_nodes inputs l = flat_map (reloc_nodes inputs l.object) l.section.relocs

-- ---- roots

abbrev pub is_data_role : SectionRole → Bool
is_data_role role.Code = false
is_data_role (role.InClass class) = true
is_data_role role.Dropped = false

-- a section is needed by itself: it is data, or fixed
abbrev pub is_root : List (List ℕ) → SectionParts → Bool
is_root fixed s = is_data_role (role_of s) || is_fixed fixed s

-- the nodes of such sections, of those from a number on
abbrev pub root_nodes_from : List (List ℕ) → ℕ → List IndexedSection → List ℕ
root_nodes_from fixed n sections = map (λ e. e.0) (filter (λ e. is_root fixed e.1.section) (enumerate_from n sections))

-- ---- marks

-- whether a section is kept and its node is marked
abbrev pub has_mark : List ObjectParts → List Bool → ℕ → ℕ → Bool
has_mark objects marks o i = option_map_or is_kept_section (section_at objects o i) false && mark_of marks (node_of objects o i)
