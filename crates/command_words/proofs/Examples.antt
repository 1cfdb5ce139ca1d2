-- What lines of words spell, and that others spell nothing.
use Rattle.std.proofs.Common.{◌≡◌, refl, ℕ, List, [], ◌∷◌, map, Some, None, codes, if◌then◌else◌}
use Rattle.std.specs.Prelude.{◌==◌, ◌-◌, Bool, true, false}
use Rattle.clap.specs.Walk.{Text}
use Rattle.text_lines.specs.Number.{if_text_of}
use Rattle.zc_base.specs.MemMap.{all_extensions, checked_map, standard_map}
use Rattle.zc_base.specs.Options.{Options, options_in}
use Rattle.zc_base.specs.declared.mem_map.MemMap.{MemMap}
use Rattle.clap.proofs.OnLiterals.{clap_on_literals}
use Rattle.command_words.specs.Command.{Check, Command, Gc, Listing, Make, Merge, Plain, Run, Share, Trace, Zc, command_of, read_by_clap}
use Rattle.command_words.specs.Table.{program_app}

-- a byte more at the front of the first word
abbrev with_byte : ℕ → List Text → List Text
with_byte c [] = (c ∷ []) ∷ []
with_byte c (word ∷ words) = (c ∷ word) ∷ words

-- the words of a line, of which one space stands between two
abbrev words_of : List ℕ → List Text
words_of [] = [] ∷ []
words_of (c ∷ line) = if c == 32 then [] ∷ words_of line else with_byte c (words_of line)

no_words : command_of [] ≡ None
unfolding program_app read_by_clap clap_on_literals
no_words = refl

abbrev none : List Text
none =
    codes "" ∷ codes "frob" ∷ codes "help" ∷ codes "help zc" ∷ codes "-h" ∷ codes "--version" ∷ codes "--" ∷ codes "-- plain --out a x.o"
    ∷ codes "--out a plain x.o" ∷ codes "Plain --out a x.o" ∷ codes "plai --out a x.o"
    ∷ codes "plain --out a" ∷ codes "plain x.o" ∷ codes "plain --out a --" ∷ codes "plain --out -a x.o" ∷ codes "plain --out -- x.o"
    ∷ codes "plain --out --out x.o" ∷ codes "plain --out a --out b x.o" ∷ codes "plain --out a x.o --out=b" ∷ codes "plain --out a -x.o"
    ∷ codes "plain --ou a x.o" ∷ codes "plain -o a x.o" ∷ codes "plain --cert c --out a x.o" ∷ codes "plain --out a x.o --help"
    ∷ codes "zc --out a x.o" ∷ codes "zc --out a --cert a x.o" ∷ codes "zc --out --cert c x.o"
    ∷ codes "run" ∷ codes "run i j" ∷ codes "run --steps +5 i" ∷ codes "run --steps -5 i" ∷ codes "run --steps  i" ∷ codes "run --steps 5x i"
    ∷ codes "run --steps 1000000001 i" ∷ codes "run --steps 000000000000000000005 i" ∷ codes "run --devices i" ∷ codes "run i --devices"
    ∷ codes "run --devices d --devices d i" ∷ codes "run --devices --plan p i" ∷ codes "trace --devices d" ∷ codes "trace --devices d --devices e x.o"
    ∷ codes "share --devices d --out a --plan p x.o" ∷ codes "zc --devices d --out a --cert c x.o" ∷ codes "trace --steps 5" ∷ codes "check c d"
    ∷ codes "make 5" ∷ codes "make 5 0 0" ∷ codes "make 18446744073709551616 0" ∷ codes "make 5 1601" ∷ codes "make --steps 5 5 0" ∷ codes "gc x.o" ∷ codes "gc --out p" ∷ codes "gc --out p --out q x.o"
    ∷ codes "gc --cert c --out p x.o" ∷ codes "gc --out -p x.o" ∷ codes "merge x.o" ∷ codes "merge --out p" ∷ codes "merge --out -p x.o" ∷ codes "share --out a x.o" ∷ codes "share --plan p x.o"
    ∷ codes "share --out a --plan p" ∷ codes "share --out a --plan p --steps 1000000001 x.o" ∷ codes "list" ∷ codes "list i j" ∷ codes "list --steps 5 i" ∷ []

-- addresses and extensions that are written otherwise, or that give no map, and options that are given twice or that a command doesn't have
abbrev no_map : List Text
no_map =
    codes "run --text 00000000 i" ∷ codes "run --text 0000f800 i" ∷ codes "run --text 00011000 i" ∷ codes "run --text 08000000 --data 080e0000 i"
    ∷ codes "run --data 0ff00010 i" ∷ codes "run --data 00100008 i" ∷ codes "run --data ffbff010 --stack-low fffffe00 --stack fffffff0 i"
    ∷ codes "run --stack 1 i" ∷ codes "run --stack 0ffff808 i" ∷ codes "run --stack= i" ∷ codes "run --stack 000100000 i"
    ∷ codes "run --stack 0FF00000 i" ∷ codes "run --stack +ff00000 i" ∷ codes "run --stack 0xff0000 i" ∷ codes "run --text fff20000 --data 00010000 i"
    ∷ codes "plain --text 0001000 --out a x.o" ∷ codes "zc --data 0010000g --out a --cert c x.o" ∷ codes "trace --stack 00001000 x.o"
    ∷ codes "run --stack 001ffff0 i" ∷ codes "run --stack-low 10000000 i" ∷ codes "run --stack-low 0ffffff8 i" ∷ codes "run --stack-low 000ffff0 i"
    ∷ codes "run --stack-low 0FFFFFF0 i" ∷ codes "run --stack-low ffffff0 i" ∷ codes "run --stack-low= i" ∷ codes "run --stack-low 0fffff00 --stack-low 0fffff00 i"
    ∷ codes "trace --text 00010000 --text 00010000 x.o" ∷ codes "run --data --stack i" ∷ codes "run --stack-low i"
    ∷ codes "gc --stack 001ffff0 --out p x.o" ∷ codes "merge --text 00011000 --out p x.o" ∷ codes "share --stack-low 10000000 --out a --plan p x.o" ∷ codes "list --data 00100008 i"
    ∷ codes "check --text 00010000 c" ∷ codes "check --stack-low 0fffff00 c" ∷ codes "check --extensions zca c" ∷ codes "make --data 00100000 5 0" ∷ codes "make --stack-low 0fffff00 5 0"
    ∷ codes "make --extensions zca 5 0" ∷ codes "run --extensions zcb i" ∷ codes "run --extensions zca_zcmp_zcb i" ∷ codes "run --extensions zca_zcmt_zcmp i" ∷ codes "run --extensions zcb_zca i"
    ∷ codes "run --extensions zca_zcb_zcb i" ∷ codes "run --extensions zca_ i" ∷ codes "run --extensions Zca i" ∷ codes "run --extensions c i" ∷ codes "run --extensions= i"
    ∷ codes "run --extensions  i" ∷ codes "run --extensions zca,zcb i" ∷ codes "run --extensions zca --extensions zca i" ∷ codes "run --extensions zca --extensions zca_zcb i"
    ∷ codes "run i --extensions" ∷ codes "gc --extensions zcb --out p x.o" ∷ codes "merge --extensions= --out p x.o" ∷ codes "share --extensions zca_zcmt_zcb --out a --plan p x.o" ∷ codes "list --extensions zcmt i" ∷ []

-- names that are empty or given twice, and commands that take none
abbrev no_names : List Text
no_names =
    codes "plain --fixed a,,b --out a x.o" ∷ codes "plain --fixed a,a --out a x.o" ∷ codes "plain --fixed , --out a x.o" ∷ codes "plain --fixed a, --out a x.o"
    ∷ codes "plain --fixed ,a --out a x.o" ∷ codes "plain --fixed= --out a x.o" ∷ codes "plain --fixed  --out a x.o" ∷ codes "plain --fixed a,b,a --out a x.o"
    ∷ codes "plain --fixed a --fixed b --out a x.o" ∷ codes "plain --fixed --out a x.o" ∷ codes "plain --fixe a --out a x.o"
    ∷ codes "zc --fixed a,a --out a --cert c x.o" ∷ codes "run --fixed a,a i" ∷ codes "run i --fixed" ∷ codes "run --fixed= i" ∷ codes "trace --fixed .text,.text x.o"
    ∷ codes "gc --fixed a,, --out p x.o" ∷ codes "merge --fixed , --out p x.o" ∷ codes "share --fixed b,a,b --out a --plan p x.o" ∷ codes "list --fixed a,a i"
    ∷ codes "check --fixed a c" ∷ codes "make --fixed a 5 0" ∷ []

none_spelled : map (λ line. command_of (words_of line)) none ≡ map (λ line. None) none
unfolding program_app read_by_clap clap_on_literals checked_map if_text_of
none_spelled = refl

no_map_spelled : map (λ line. command_of (words_of line)) no_map ≡ map (λ line. None) no_map
unfolding program_app read_by_clap clap_on_literals checked_map if_text_of
no_map_spelled = refl

no_names_spelled : map (λ line. command_of (words_of line)) no_names ≡ map (λ line. None) no_names
unfolding program_app read_by_clap clap_on_literals checked_map if_text_of
no_names_spelled = refl

-- no name is given, and the map is the usual one
abbrev standard : Options
standard = options_in standard_map

abbrev some : List (Text × Command)
some =
    (codes "plain --out a x.o", Plain standard (codes "a") (codes "x.o" ∷ []))
    ∷ (codes "plain x.o --out=a y.o", Plain standard (codes "a") (codes "x.o" ∷ codes "y.o" ∷ []))
    ∷ (codes "plain --out= x.o", Plain standard [] (codes "x.o" ∷ []))
    ∷ (codes "plain --out=-a x.o", Plain standard (codes "-a") (codes "x.o" ∷ []))
    ∷ (codes "plain --out - -", Plain standard (codes "-") (codes "-" ∷ []))
    ∷ (codes "plain --out a -- --out b", Plain standard (codes "a") (codes "--out" ∷ codes "b" ∷ []))
    ∷ (codes "plain --out help zc", Plain standard (codes "help") (codes "zc" ∷ []))
    ∷ (codes "zc --cert ./a --out a x.o x.o", Zc standard (codes "a") (codes "./a") (codes "x.o" ∷ codes "x.o" ∷ []))
    ∷ (codes "run i", Run standard_map None None 10000000 (codes "i"))
    ∷ (codes "run --steps=0 i --plan p", Run standard_map None (Some (codes "p")) 0 (codes "i"))
    ∷ (codes "run --devices d i", Run standard_map (Some (codes "d")) None 10000000 (codes "i"))
    ∷ (codes "run --plan p i --devices=d --steps 5", Run standard_map (Some (codes "d")) (Some (codes "p")) 5 (codes "i"))
    ∷ (codes "run --steps 00000000001000000000 i", Run standard_map None None 1000000000 (codes "i"))
    ∷ (codes "trace --steps 5 x.o", Trace standard None 5 (codes "x.o" ∷ []))
    ∷ (codes "trace x.o --devices d y.o", Trace standard (Some (codes "d")) 10000000 (codes "x.o" ∷ codes "y.o" ∷ []))
    ∷ (codes "check c", Check (codes "c"))
    ∷ (codes "make 5 0", Make None 5 0)
    ∷ (codes "make --out p 18446744073709551615 1600", Make (Some (codes "p")) 18446744073709551615 1600)
    ∷ (codes "gc --out p x.o", Gc standard (codes "p") (codes "x.o" ∷ []))
    ∷ (codes "gc y.o --out= x.o", Gc standard [] (codes "y.o" ∷ codes "x.o" ∷ []))
    ∷ (codes "merge --out p x.o y.o", Merge standard (codes "p") (codes "x.o" ∷ codes "y.o" ∷ []))
    ∷ (codes "share --out a --plan p x.o y.o", Share standard (codes "a") (codes "p") 10000000 (codes "x.o" ∷ codes "y.o" ∷ []))
    ∷ (codes "share x.o --steps=5 --plan p --out=a", Share standard (codes "a") (codes "p") 5 (codes "x.o" ∷ []))
    ∷ (codes "list i", Listing standard_map (codes "i")) ∷ []

some_spelled : map (λ row. command_of (words_of row.0)) some ≡ map (λ row. Some row.1) some
unfolding program_app read_by_clap clap_on_literals checked_map if_text_of
some_spelled = refl

-- the map with the stack in the MiB below an address
abbrev map_at : ℕ → ℕ → ℕ → MemMap
map_at text low stack = record { text = text; data_low = low; stack_low = stack - 0x0010_0000; stack_high = stack; extensions = all_extensions }

-- a chip with 520 KiB of RAM, of which the stack has 4, with Zcb and Zcmp
abbrev small_map : MemMap
small_map = record {
  text = 0x1000_0000;
  data_low = 0x2000_0000;
  stack_low = 0x2008_1000;
  stack_high = 0x2008_2000;
  extensions = record { zcb = true; zcmp = true; zcmt = false };
}

abbrev small : Options
small = options_in small_map

abbrev some_map : List (Text × Command)
some_map =
    (codes "plain --text 08000000 --data 20000000 --stack 20600000 --out a x.o", Plain (options_in (map_at 0x0800_0000 0x2000_0000 0x2060_0000)) (codes "a") (codes "x.o" ∷ []))
    ∷ (codes "zc --out a x.o --stack=005f1000 --cert c --data=000f1000 --text=00001000", Zc (options_in (map_at 0x1000 0x000F_1000 0x005F_1000)) (codes "a") (codes "c") (codes "x.o" ∷ []))
    ∷ (codes "run --stack fffff000 i", Run (map_at 0x0001_0000 0x0010_0000 0xFFFF_F000) None None 10000000 (codes "i"))
    ∷ (codes "run --text ffa0f000 --data ffaff000 --stack fffffff0 i", Run (map_at 0xFFA0_F000 0xFFAF_F000 0xFFFF_FFF0) None None 10000000 (codes "i"))
    ∷ (codes "run --data ffbff000 --stack-low fffffe00 --stack fffffff0 i", Run (record (map_at 0x0001_0000 0xFFBF_F000 0xFFFF_FFF0) { stack_low = 0xFFFF_FE00 }) None None 10000000 (codes "i"))
    ∷ (codes "run --data 0ff00000 i", Run (record standard_map { data_low = 0x0FF0_0000 }) None None 10000000 (codes "i"))
    ∷ (codes "run --data 00100010 --stack 00200010 i", Run (map_at 0x0001_0000 0x0010_0010 0x0020_0010) None None 10000000 (codes "i"))
    ∷ (codes "run --stack-low 0ffffff0 i", Run (record standard_map { stack_low = 0x0FFF_FFF0 }) None None 10000000 (codes "i"))
    ∷ (codes "run --stack-low 00100000 i", Run (record standard_map { stack_low = 0x0010_0000 }) None None 10000000 (codes "i"))
    ∷ (codes "trace --text 00010000 --data 00100000 x.o --stack 10000000", Trace standard None 10000000 (codes "x.o" ∷ []))
    ∷ (codes "zc --text 10000000 --data 20000000 --stack-low 20081000 --stack 20082000 --extensions zca_zcb_zcmp --out a --cert c x.o", Zc small (codes "a") (codes "c") (codes "x.o" ∷ []))
    ∷ (codes "gc --out p x.o --text 10000000 --data 20000000 --stack-low 20081000 --stack 20082000 --extensions zca_zcb_zcmp", Gc small (codes "p") (codes "x.o" ∷ []))
    ∷ (codes "merge --extensions zca_zcb_zcmp --stack 20082000 --stack-low 20081000 --data 20000000 --text 10000000 --out p x.o", Merge small (codes "p") (codes "x.o" ∷ []))
    ∷ (codes "share --text 10000000 --data 20000000 --stack-low=20081000 --stack 20082000 --extensions=zca_zcb_zcmp --out a --plan p --steps 5 x.o", Share small (codes "a") (codes "p") 5 (codes "x.o" ∷ []))
    ∷ (codes "list i --text 10000000 --data 20000000 --stack-low 20081000 --stack 20082000 --extensions zca_zcb_zcmp", Listing small_map (codes "i")) ∷ []

some_map_spelled : map (λ row. command_of (words_of row.0)) some_map ≡ map (λ row. Some row.1) some_map
unfolding program_app read_by_clap clap_on_literals checked_map if_text_of
some_map_spelled = refl

-- the standard map on a chip that has these beside Zca
abbrev chip_with : Bool → Bool → Bool → MemMap
chip_with zcb zcmp zcmt = record standard_map { extensions = record { zcb = zcb; zcmp = zcmp; zcmt = zcmt } }

abbrev some_extensions : List (Text × MemMap)
some_extensions =
    (codes "list --extensions zca i", chip_with false false false) ∷ (codes "list --extensions zca_zcb i", chip_with true false false)
    ∷ (codes "list --extensions zca_zcmp i", chip_with false true false) ∷ (codes "list --extensions zca_zcmt i", chip_with false false true)
    ∷ (codes "list --extensions zca_zcb_zcmp i", chip_with true true false) ∷ (codes "list --extensions zca_zcb_zcmt i", chip_with true false true)
    ∷ (codes "list --extensions zca_zcmp_zcmt i", chip_with false true true) ∷ (codes "list --extensions zca_zcb_zcmp_zcmt i", standard_map) ∷ []

some_extensions_spelled : map (λ row. command_of (words_of row.0)) some_extensions ≡ map (λ row. Some (Listing row.1 (codes "i"))) some_extensions
unfolding program_app read_by_clap clap_on_literals checked_map if_text_of
some_extensions_spelled = refl

-- the standard map, and these names
abbrev with_names : List Text → Options
with_names names = record { map = standard_map; fixed = names }

abbrev some_names : List (Text × Command)
some_names =
    (codes "plain --fixed .text.trap --out a x.o", Plain (with_names (codes ".text.trap" ∷ [])) (codes "a") (codes "x.o" ∷ []))
    ∷ (codes "plain --out a x.o --fixed a,b,ab,A", Plain (with_names (codes "a" ∷ codes "b" ∷ codes "ab" ∷ codes "A" ∷ [])) (codes "a") (codes "x.o" ∷ []))
    ∷ (codes "zc --fixed=-a,--out --out a --cert c x.o", Zc (with_names (codes "-a" ∷ codes "--out" ∷ [])) (codes "a") (codes "c") (codes "x.o" ∷ []))
    ∷ (codes "zc --fixed .init --extensions zca --out a --cert c x.o", Zc (record (with_names (codes ".init" ∷ [])) { map = record standard_map { extensions = record { zcb = false; zcmp = false; zcmt = false } } }) (codes "a") (codes "c") (codes "x.o" ∷ []))
    ∷ (codes "run --fixed a i --steps 5", Run standard_map None None 5 (codes "i"))
    ∷ (codes "trace x.o --fixed a.b,a", Trace (with_names (codes "a.b" ∷ codes "a" ∷ [])) None 10000000 (codes "x.o" ∷ []))
    ∷ (codes "gc --fixed a --out p x.o", Gc (with_names (codes "a" ∷ [])) (codes "p") (codes "x.o" ∷ []))
    ∷ (codes "merge --out p --fixed a x.o", Merge (with_names (codes "a" ∷ [])) (codes "p") (codes "x.o" ∷ []))
    ∷ (codes "share --fixed a;b --out a --plan p x.o", Share (with_names (codes "a;b" ∷ [])) (codes "a") (codes "p") 10000000 (codes "x.o" ∷ []))
    ∷ (codes "list --fixed a,b i", Listing standard_map (codes "i")) ∷ []

some_names_spelled : map (λ row. command_of (words_of row.0)) some_names ≡ map (λ row. Some row.1) some_names
unfolding program_app read_by_clap clap_on_literals checked_map if_text_of
some_names_spelled = refl
