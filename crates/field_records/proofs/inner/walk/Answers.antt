-- The meaning by the stream, at the stream that the match found.
use Rattle.field_records.proofs.inner.walk.Goals as goal

pub returns-in-RepLayout : goal.returns-in-RepLayout
returns-in-RepLayout c = rw c.in-RepLayout.is c.parse_rep_layout.ensures

pub returns-in-RepLayoutContentBlock : goal.returns-in-RepLayoutContentBlock
returns-in-RepLayoutContentBlock c = rw c.in-RepLayoutContentBlock.is c.parse_rep_layout_content_block.ensures

pub returns-in-ClassNetCache : goal.returns-in-ClassNetCache
returns-in-ClassNetCache c = rw c.in-ClassNetCache.is c.parse_class_net_cache.ensures
