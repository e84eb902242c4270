-- The fields of `Page`, and the page that they hold. The model alone cites this file.
use Rattle.cept_page.specs.declared.page.Page.TheInside.{Inside}
use Rattle.cept_profile.specs.State.{Page}

-- the page that the fields hold
abbrev pub page_of : Inside → Page
page_of p = record {
  cells = p.grid;
  row_pens = p.row_pens;
  screen_pen = p.screen_pen;
  paints = p.colours.paints;
  dclut = p.colours.dclut;
  patterns = p.patterns;
}
