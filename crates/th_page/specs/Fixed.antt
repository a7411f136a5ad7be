-- The texts that every page has.
use Rattle.std.specs.Prelude.{ℕ, List, ◌++◌, codes}

-- what is before the title
unfoldable pub head_text : List ℕ
head_text =
    codes "<!DOCTYPE html>\n"
    ++ codes "<html lang=\"en\">\n"
    ++ codes "<head>\n"
    ++ codes "<meta charset=\"utf-8\">\n"
    ++ codes "<meta name=\"viewport\" content=\"width=device-width, initial-scale=1\">\n"
    ++ codes "<title>"

-- what is between the title and the style
unfoldable pub title_end : List ℕ
title_end =
    codes ": heights</title>\n"
    ++ codes "<style>\n"

-- the style
unfoldable pub style_text : List ℕ
style_text =
    codes ":root{color-scheme:light}\n"
    ++ codes "body{margin:0 auto;padding:1em 1em 3em;max-width:54em;background:#fff;color:#16191d;font:1em/1.4 system-ui,Helvetica,Arial,sans-serif}\n"
    ++ codes "h1{margin:0;font-size:1.6em;line-height:1.2;overflow-wrap:anywhere}\n"
    ++ codes "h2{margin:1.8em 0 .3em;font-size:1.15em}\n"
    ++ codes "p,ul{margin:.4em 0;padding:0}\n"
    ++ codes "ul{list-style:none}\n"
    ++ codes "figure{margin:1.4em 0 0}\n"
    ++ codes "figcaption,.of,.note{color:#555d66;font-size:.88em}\n"
    ++ codes "bdi,li,p,th{overflow-wrap:anywhere}\n"
    ++ codes "code{font:.92em ui-monospace,Menlo,Consolas,monospace}\n"
    ++ codes ".verdict{margin:.8em 0;padding:.3em 0 .4em .9em;border-left:.4em solid #c4161c}\n"
    ++ codes ".verdict h2{margin:0 0 .2em;font-size:1.3em;line-height:1.25}\n"
    ++ codes ".verdict.good{border-left:.4em double #2a7d4f}\n"
    ++ codes ".verdict.care{border-left:.4em dashed #2f5d8a}\n"
    ++ codes ".facts{display:flex;flex-wrap:wrap;gap:.4em 2em;color:#555d66;font-size:.88em}\n"
    ++ codes ".facts b{display:block;color:#16191d;font-size:1.4em;line-height:1.2;font-variant-numeric:tabular-nums}\n"
    ++ codes ".w,.col{overflow-x:auto}\n"
    ++ codes "table{border-collapse:collapse;font-variant-numeric:tabular-nums}\n"
    ++ codes "th,td{padding:.15em .7em .15em 0;text-align:right;white-space:nowrap;border-bottom:1px solid #e2e5e8}\n"
    ++ codes "th{font:1em ui-monospace,Menlo,Consolas,monospace;text-align:left;white-space:pre}\n"
    ++ codes "th.t{font-family:inherit}\n"
    ++ codes "thead th,thead td{color:#555d66;font:.85em system-ui,Helvetica,Arial,sans-serif;border-color:#16191d}\n"
    ++ codes ".x th,.x td{border-bottom-color:#c4161c}\n"
    ++ codes ".x>:first-child{box-shadow:inset .3em 0 #c4161c;padding-left:.7em}\n"
    ++ codes ".x b,.r{color:#c4161c;font-weight:bold}\n"
    ++ codes "s{text-decoration-color:#c4161c}\n"
    ++ codes ".col{display:inline-block;box-sizing:border-box;max-width:100%;vertical-align:top;margin-bottom:1em;padding-right:2em;break-inside:avoid}\n"
    ++ codes "summary{cursor:pointer;margin:.6em 0;color:#2f5d8a}\n"
    ++ codes "svg{display:block;width:100%}\n"
    ++ codes "path{fill:none}\n"
    ++ codes ".n{font:110px ui-monospace,Menlo,Consolas,monospace;fill:#444}\n"
    ++ codes ".e{text-anchor:end}\n"
    ++ codes ".m{text-anchor:middle}\n"
    ++ codes ".l{stroke:#e2e5e8;stroke-width:10}\n"
    ++ codes ".d{stroke:#bbb;stroke-width:6;stroke-dasharray:6 24}\n"
    ++ codes ".z{stroke:#555d66;stroke-width:10}\n"
    ++ codes "rect{fill:#eef1f3}\n"
    ++ codes ".q{stroke:#b4bcc5;stroke-width:6}\n"
    ++ codes ".v{stroke:#2f5d8a;stroke-width:16;stroke-dasharray:120 30 20 30}\n"
    ++ codes ".c{stroke:#16191d;stroke-width:14;stroke-dasharray:70 45}\n"
    ++ codes ".s{stroke:#c4161c;stroke-width:14;stroke-dasharray:20 25}\n"
    ++ codes ".a{stroke:#c4161c;stroke-width:16}\n"
    ++ codes ".q.few{stroke:#8a949e;stroke-width:10}\n"
    ++ codes ".v.few,.c.few,.s.few{stroke-width:20}\n"
    ++ codes ".a.few{stroke-width:30}\n"
    ++ codes "circle{fill:#fff;stroke:#16191d;stroke-width:14}\n"
    ++ codes ".dots:has(:nth-child(1001)) circle{r:4px;stroke:#8a949e;stroke-width:8}\n"
    ++ codes ".k{fill:#16191d;stroke:#fff;stroke-width:10}\n"
    ++ codes ".p{stroke:#c46200;stroke-width:70;opacity:.4}\n"
    ++ codes ".gap,.cross{stroke:#c4161c;stroke-width:18}\n"
    ++ codes ".gap{stroke-dasharray:30 30}\n"
    ++ codes ".bars path{stroke-width:inherit;stroke-dasharray:none}\n"
    ++ codes ".legend{display:flex;flex-wrap:wrap;gap:.2em 1.4em;color:#555d66;font-size:.88em}\n"
    ++ codes ".legend li{display:flex;align-items:center;gap:.5em}\n"
    ++ codes ".legend svg{width:3em;flex:none}\n"
    ++ codes ".legend path{stroke-width:24}\n"
    ++ codes "#ask{margin-top:2.4em;border-top:1px solid #16191d;color:#555d66;font-size:.88em}\n"
    ++ codes "#ask b{color:#16191d}\n"
    ++ codes "@media screen{.col{content-visibility:auto;contain-intrinsic-size:auto 20em auto 36em}}\n"
    ++ codes "@media screen and (max-width:40em){body{padding-top:.6em}h1{font-size:1.3em}.verdict{margin:.5em 0;padding:.1em 0 .2em .7em}.verdict h2{font-size:1.15em}.verdict p{margin:.25em 0;line-height:1.3}figure{margin:.6em 0 0}.w{margin:0 -1em;padding:0 1em}.w svg{overflow:visible}.n{font-size:150px}.n.e{font-size:190px}table{font-size:.9em}}\n"
    ++ codes "@media print{@page{size:A4;margin:15mm}body{padding:0;max-width:none;font-size:9pt}th{white-space:pre-wrap}tr,figure,li,p,.verdict{break-inside:avoid}h2,h2+p{break-after:avoid}details{display:none}}\n"

-- what is between the style and the title above the page
unfoldable pub body_text : List ℕ
body_text =
    codes "</style>\n"
    ++ codes "</head>\n"
    ++ codes "<body>\n"
    ++ codes "<h1>"

-- what is before the picture
unfoldable pub picture_start : List ℕ
picture_start =
    codes "<figure>\n"
    ++ codes "<div class=\"w\">\n"

-- the caption of the picture, and the end of its figure
unfoldable pub caption_text : List ℕ
caption_text =
    codes "<figcaption>Heights in metres, points in the order of the books. Each sight is drawn from its station to where it puts its target. It bends up if it runs to the right, and down if to the left.</figcaption>\n"
    ++ codes "</figure>\n"

-- the beginning of the section of heights
unfoldable pub height_start : List ℕ
height_start =
    codes "<section id=\"heights\">\n"
    ++ codes "<h2>Heights</h2>\n"
    ++ codes "<p class=\"note\">"

-- what heights are
unfoldable pub height_note : List ℕ
height_note = codes "In metres. Where there is a second height, any height up to it fits equally well if other points move with it. Strength is the least weight of sights that tie the point to the benchmarks. Wrong sights that weigh less than half of it together do not drag the point.</p>\n"

-- the beginning of the section of benchmarks
unfoldable pub benchmark_start : List ℕ
benchmark_start =
    codes "<section id=\"benchmarks\">\n"
    ++ codes "<h2>Benchmarks</h2>\n"
    ++ codes "<p class=\"note\">The given heights, and what the other benchmarks say of each by the sights that lead there. With more than 4,000 sights it may be asked of the first rows alone.</p>\n"

-- the beginning of the section of residuals
unfoldable pub residual_start : List ℕ
residual_start =
    codes "<section id=\"residuals\">\n"
    ++ codes "<h2>Residuals</h2>\n"
    ++ codes "<p class=\"note\">By how much each sight puts its target above (+) or below (-) its height, in the order of the books. Grey: within the limit. A place such as 2:14 is line 14 of book 2.</p>\n"
    ++ codes "<div class=\"w\">\n"

-- the beginning of the section of explanations
unfoldable pub explanation_start : List ℕ
explanation_start =
    codes "<section id=\"explanations\">\n"
    ++ codes "<h2>What would explain it</h2>\n"
    ++ codes "<p class=\"note\">One number changed at a time. With the proposed number nearest to the given one, the cost and the marks of the last two columns are left. Rows with the same number explain equally well.</p>\n"

-- the beginning of the section of where a mistake could hide
unfoldable pub hiding_start : List ℕ
hiding_start =
    codes "<section id=\"hide\">\n"
    ++ codes "<h2>What could hide</h2>\n"
    ++ codes "<p class=\"note\">Where a single mistake would not show as its own residual. This is no fault that was found: one more sight or benchmark can check such a number. Ties: it or another sight is marked. Hides: other sights are marked. Drags: points move, and other sights are marked, or none. Unchecked: nothing is marked.</p>\n"

-- what is before the table of weak sights
unfoldable pub weak_sights_start : List ℕ
weak_sights_start =
    codes "<details>\n"
    ++ codes "<summary>Weak sights</summary>\n"

-- what is before the table of weak benchmarks
unfoldable pub weak_benchmarks_start : List ℕ
weak_benchmarks_start =
    codes "<details>\n"
    ++ codes "<summary>Weak benchmarks</summary>\n"

-- what is before the table of weak keyed-in heights
unfoldable pub weak_entries_start : List ℕ
weak_entries_start =
    codes "<details>\n"
    ++ codes "<summary>Weak keyed-in heights</summary>\n"

-- the end of details
unfoldable pub details_end : List ℕ
details_end = codes "</details>\n"

-- the beginning of the section of notes
unfoldable pub note_start : List ℕ
note_start =
    codes "<section id=\"notes\">\n"
    ++ codes "<h2>Notes</h2>\n"
    ++ codes "<p class=\"note\">What looks odd in the books and tables.</p>\n"
    ++ codes "<ul>\n"

-- the beginning of the section of what a client may ask, up to the cost
unfoldable pub ask_start : List ℕ
ask_start =
    codes "<section id=\"ask\">\n"
    ++ codes "<h2>What a client may ask</h2>\n"
    ++ codes "<p><b>How were the heights found?</b> They keep the benchmarks, and the sum of weight times size over all residuals is "

-- what is between the cost and the inputs
unfoldable pub ask_middle : List ℕ
ask_middle =
    codes " m: no heights that keep the benchmarks have less. A sight that others outweigh does not pull them. All lengths are in metres, rounded to 0.1 mm.</p>\n"
    ++ codes "<p><b>How can they be checked?</b> <code>height_office adjust</code> writes a certificate beside the heights. With it and these inputs <code>height_office check</code> prints yes.</p>\n"
    ++ codes "<p><b>What were they made of?</b></p>\n"
    ++ codes "<ul class=\"inputs\">\n"

-- the end of that section
unfoldable pub ask_end : List ℕ
ask_end =
    codes "</ul>\n"
    ++ codes "<p>Height Office</p>\n"
    ++ codes "</section>\n"

-- the end of a section
unfoldable pub section_end : List ℕ
section_end = codes "</section>\n"
