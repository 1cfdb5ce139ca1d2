-- Which rows and halfwords a chip with Zca has, by its other extensions (RISC-V Zc specification 1.0, "Zca", "Zcb", "Zcmp"
-- and "Zcmt").
use Rattle.std.specs.Prelude.{ℕ, Bool, true, false}
use Rattle.std.specs.Option.{option_map_or}
use Rattle.zc_base.specs.declared.extensions.Extensions.{Extensions}
use Rattle.zc_decode.specs.Rows.{form_of}
use Rattle.zc_decode.specs.declared.form.Form.{Form}
use Rattle.zc_decode.specs.declared.form.Form.TheVariants.{CAddi4spn, CLw, CSw, CLbu, CLhu, CLh, CSb, CSh, CNop, CAddi, CJal, CLi, CAddi16sp, CLui, CSrli, CSrai, CAndi, CSub, CXor, COr, CAnd, CMul, CZextB, CNot, CJ, CBeqz, CBnez, CSlli, CLwsp, CJr, CMv, CEbreak, CJalr, CAdd, CSwsp, CmPush, CmPop, CmPopretz, CmPopret, CmMvsa01, CmMva01s, CmJt, CmJalt}

-- a chip has a row: it is one of Zca, or of an extension that the chip has
abbrev pub has_row : Extensions → Form → Bool
has_row extensions CAddi4spn = true
has_row extensions CLw = true
has_row extensions CSw = true
has_row extensions CLbu = extensions.zcb
has_row extensions CLhu = extensions.zcb
has_row extensions CLh = extensions.zcb
has_row extensions CSb = extensions.zcb
has_row extensions CSh = extensions.zcb
has_row extensions CNop = true
has_row extensions CAddi = true
has_row extensions CJal = true
has_row extensions CLi = true
has_row extensions CAddi16sp = true
has_row extensions CLui = true
has_row extensions CSrli = true
has_row extensions CSrai = true
has_row extensions CAndi = true
has_row extensions CSub = true
has_row extensions CXor = true
has_row extensions COr = true
has_row extensions CAnd = true
has_row extensions CMul = extensions.zcb
has_row extensions CZextB = extensions.zcb
has_row extensions CNot = extensions.zcb
has_row extensions CJ = true
has_row extensions CBeqz = true
has_row extensions CBnez = true
has_row extensions CSlli = true
has_row extensions CLwsp = true
has_row extensions CJr = true
has_row extensions CMv = true
has_row extensions CEbreak = true
has_row extensions CJalr = true
has_row extensions CAdd = true
has_row extensions CSwsp = true
has_row extensions CmPush = extensions.zcmp
has_row extensions CmPop = extensions.zcmp
has_row extensions CmPopretz = extensions.zcmp
has_row extensions CmPopret = extensions.zcmp
has_row extensions CmMvsa01 = extensions.zcmp
has_row extensions CmMva01s = extensions.zcmp
has_row extensions CmJt = extensions.zcmt
has_row extensions CmJalt = extensions.zcmt

-- a chip has a halfword: it is of a row that the chip has
unfoldable pub has_half : Extensions → ℕ → Bool
has_half extensions half = option_map_or (has_row extensions) (form_of half) false
