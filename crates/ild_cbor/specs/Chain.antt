-- Items, and others behind them.
use Rattle.ild_data.specs.Data.{Items, no_items, item}

abbrev pub chain : Items → Items → Items
chain no_items es = es
chain (item d ds) es = item d (chain ds es)
