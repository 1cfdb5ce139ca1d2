-- The map that words give: where the program lies, and what the chip has.
use Rattle.std.specs.Prelude.{ℕ, ◌-◌, true, false, List, [], ◌∷◌, codes, find, Option, Some, None}
use Rattle.std.specs.Option.{option_and_then, option_map}
use Rattle.std.specs.Str.{bytes_eq}
use Rattle.clap.specs.Walk.{Text}
use Rattle.text_lines.specs.Number.{hex_word_of}
use Rattle.zc_base.specs.MemMap.{all_extensions, checked_map, standard_map}
use Rattle.zc_base.specs.declared.extensions.Extensions.{Extensions}
use Rattle.zc_base.specs.declared.mem_map.MemMap.{MemMap}
use Rattle.command_words.specs.declared.command_line.TheConstants.{USUAL_STACK}

-- the address that an option's value is, in eight lower-case hexadecimal digits, or the usual one without it
abbrev pub address_given : ℕ → Option Text → Option ℕ
address_given usual (Some word) = hex_word_of word
address_given usual None = Some usual

-- the words for what a chip has: Zca, and others behind it in this order
abbrev pub extension_words : List (Text × Extensions)
extension_words =
    (codes "zca", record { zcb = false; zcmp = false; zcmt = false })
    ∷ (codes "zca_zcb", record { zcb = true; zcmp = false; zcmt = false })
    ∷ (codes "zca_zcmp", record { zcb = false; zcmp = true; zcmt = false })
    ∷ (codes "zca_zcmt", record { zcb = false; zcmp = false; zcmt = true })
    ∷ (codes "zca_zcb_zcmp", record { zcb = true; zcmp = true; zcmt = false })
    ∷ (codes "zca_zcb_zcmt", record { zcb = true; zcmp = false; zcmt = true })
    ∷ (codes "zca_zcmp_zcmt", record { zcb = false; zcmp = true; zcmt = true })
    ∷ (codes "zca_zcb_zcmp_zcmt", all_extensions) ∷ []

-- the extensions that an option's value names, or all without it
abbrev pub extensions_given : Option Text → Option Extensions
extensions_given (Some word) = option_map (λ row. row.1) (find (λ row. bytes_eq word row.0) extension_words)
extensions_given None = Some all_extensions

-- the map of the values of a map's options, in their order, if they give one that the linker accepts. A missing address
-- is the standard map's, but the stack begins 1 MiB below its end, or at 0, where no map has it
abbrev pub map_given : List (Option Text) → Option MemMap
map_given (text ∷ start ∷ low ∷ high ∷ word ∷ []) =
    option_and_then
    (λ t. option_and_then
    (λ d. option_and_then
    (λ h. option_and_then
    (λ l. option_and_then
    (λ e. checked_map (record { text = t; data_low = d; stack_low = l; stack_high = h; extensions = e }))
    (extensions_given word))
    (address_given (h - USUAL_STACK) low))
    (address_given standard_map.stack_high high))
    (address_given standard_map.data_low start))
    (address_given standard_map.text text)
map_given other = None
